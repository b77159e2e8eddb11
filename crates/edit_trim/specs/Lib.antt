-- What is known on the way to a plan.
pub mod Asked
pub mod Changes
pub mod Founds
pub mod Motions
pub mod Seats
pub mod Retimes
pub mod Plans

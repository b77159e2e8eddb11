-- What is known on the way to a plan.
pub mod Begun
pub mod Zoned
pub mod Answered

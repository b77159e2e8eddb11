pub mod fitted
pub mod lists
pub mod members

-- Words of the private calls; no public clause cites them.
pub mod Steps
pub mod Kinds
pub mod Walks

-- The list of a timeline and its children, as the code keeps them, and what the code of conform
-- speaks of.
pub mod ConformedRanges
pub mod Uses
pub mod Steps
pub mod Stated
pub mod Seated
pub mod Ranges
pub mod Shots
pub mod Drafts
pub mod Tenths
pub mod Walk
pub mod Givers

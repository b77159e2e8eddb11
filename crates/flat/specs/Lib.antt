-- Flat timelines, and what they show.
pub mod Roots
pub mod Pieces
pub mod Blocked
pub mod Flattened
pub mod Windowed
pub mod Joined
pub mod Piled
pub mod Straight
pub mod Answers
pub mod Built
pub mod Worked

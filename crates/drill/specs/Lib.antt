-- What a drill draws, makes, does, sums and reports.
pub mod Draws
pub mod Acts
pub mod Worked
pub mod Media
pub mod Starting
pub mod Making
pub mod Frames
pub mod Rounds
pub mod Rewinding
pub mod Turns
pub mod Sums
pub mod Reasons
pub mod Lists
pub mod Lines
pub mod Told

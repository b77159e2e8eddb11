-- Which frames of media a timeline uses, which are wanted, and the pull list.
pub mod Used
pub mod Wanted
pub mod Pulled
pub mod Record
pub mod Lines
pub mod Found
pub mod Labels
pub mod Parts
pub mod Stretches
pub mod Runs
pub mod Worked

-- Edit scripts as texts: their words, numbers, commands and faults; and definitions of running one.
pub mod Words
pub mod Numbers
pub mod Acts
pub mod Scripts
pub mod Reading
pub mod Items
pub mod RunActs
pub mod Runs
pub mod Keeping
pub mod EditHistories
pub mod Groups
pub mod Steps
pub mod Plans

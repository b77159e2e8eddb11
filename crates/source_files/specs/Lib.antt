-- The texts of messages, and the files that a command reads.
pub mod Places
pub mod Reasons
pub mod Faults
pub mod Order
pub mod Kinds
pub mod Contents
pub mod Formats
pub mod Reading
pub mod Inputs
pub mod Hand
pub mod HandedFiles
pub mod Following
pub mod Values

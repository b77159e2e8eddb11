-- What the laws of lists and timelines speak of.
pub mod Law
pub mod PlainItems
pub mod Worked
pub mod Premises
pub mod Fits
pub mod WorkedTracks
pub mod Kept

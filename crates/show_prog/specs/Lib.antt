-- What is seen at each record frame, and its text; the lines that list it; and the listings of a
-- timeline: its tracks, its clips, their media and its numbers.
pub mod Clocks
pub mod Walk
pub mod Pictures
pub mod Texts
pub mod Rows
pub mod Handing
pub mod Places
pub mod Spots
pub mod Counted
pub mod ListingTexts
pub mod Worked

-- Definitions of timecode labels (SMPTE ST 12-1), of words that are rates, and of points of a
-- record.
pub mod Day
pub mod Spelling
pub mod Laws
pub mod Modes
pub mod Answers
pub mod Frames
pub mod RateWords
pub mod Words
pub mod PointFrames
pub mod Digits

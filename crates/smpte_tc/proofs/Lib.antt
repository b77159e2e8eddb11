-- Lemmas on labels, rates and points.
pub mod Lists
pub mod Counting
pub mod Dropping
pub mod Labels
pub mod Spellings
pub mod Minutes
pub mod OneReading
pub mod RoundTrip
pub mod WrittenLabels
pub mod Coprime
pub mod FrameLemmas
pub mod RateLemmas
pub mod WholeNumbers
pub mod OnePoint

-- Definitions of exact time: rates, times and spans.
pub mod Rates
pub mod Times
pub mod Sums
pub mod Numerals
pub mod Decimals
pub mod Tallies
pub mod Texts
pub mod Frames
pub mod FixedRates
pub mod Rounding
pub mod RateWords

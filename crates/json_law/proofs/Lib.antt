-- Lemmas on JSON texts and numerals.
pub mod Strings
pub mod Names
pub mod Blanks
pub mod Parts
pub mod Texts
pub mod Reading
pub mod Numerals
pub mod NumeralsInside
pub mod Members
pub mod UpgradedNumerals
pub mod UpgradedTwice

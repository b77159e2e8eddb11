-- Lemmas on written objects.
pub mod AddedMembers
pub mod Decimals
pub mod Distinct
pub mod Numbers
pub mod Trees
pub mod Values
pub mod TableForms
pub mod ShortDecimals
pub mod RereadTexts
pub mod ObjectLines
pub mod ListLines
pub mod OldLemmas

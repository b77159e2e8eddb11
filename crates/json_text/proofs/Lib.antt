-- Lemmas on JSON text.
pub mod Basics
pub mod Utf8Lemmas
pub mod NumberLemmas
pub mod Finishes
pub mod TextSteps
pub mod Steps
pub mod ValidStates
pub mod LiveStates
pub mod OutsideStrings
pub mod Utf8Steps
pub mod SeenTexts
pub mod FinalStates
pub mod RunLemmas
pub mod NamedFaults
mod OpenLevels
pub mod Skims
pub mod OneText
pub mod Ascii
pub mod GatheredLemmas
pub mod Escaping
pub mod Indents
pub mod Lines
mod DigitTests
mod WholeNumerals

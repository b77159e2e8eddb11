-- Definitions of the text of a JSON value, as it is read and as it is laid out.
pub mod Numeral
pub mod Grammar
pub mod Strings
pub mod Faults
pub mod State
pub mod Reader
pub mod StringTexts
pub mod Layout
pub mod Levels

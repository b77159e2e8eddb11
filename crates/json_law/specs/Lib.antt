-- What the laws of JSON texts and numerals say.
pub mod Written
pub mod Forms
pub mod Law

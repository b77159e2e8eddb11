-- Definitions of the text of a media list.
pub mod Texts

-- Lemmas on the text of a media list.
pub mod RowParts
pub mod Rereading

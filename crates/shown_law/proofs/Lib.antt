-- Lemmas on what cuts and edits show.
pub mod MadePieces
pub mod EditedLists

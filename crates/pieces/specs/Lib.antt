-- Pieces of items.
pub mod Short

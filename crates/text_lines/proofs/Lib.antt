pub mod Bytes
pub mod Pieces
pub mod Places
pub mod Returns
pub mod Splitting
pub mod Stripping
pub mod Trimming
pub mod ReelLemmas

pub mod Bytes
pub mod Hashes
pub mod Known
pub mod Pairs
pub mod Places
pub mod Rows
pub mod formers

pub mod SendingLemmas
pub mod FileNumbers
pub mod BufferLemmas
pub mod PartLemmas
pub mod Leaving
pub mod Walks
pub mod Reading

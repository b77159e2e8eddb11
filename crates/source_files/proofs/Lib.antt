-- Lemmas on the texts of messages and on files.
pub mod Indexes
pub mod HandedLemmas
pub mod FollowingLemmas
pub mod KnownFiles
pub mod Order
pub mod Walking
pub mod JsonLemmas
pub mod ListLemmas
pub mod ObjectLemmas
pub mod MediaLemmas
pub mod ScriptLemmas
pub mod LogLemmas
pub mod NotedLemmas

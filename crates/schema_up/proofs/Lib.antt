-- Lemmas on upgrades.
pub mod Digits
pub mod Levels
pub mod MemberLemmas
pub mod Points
pub mod PutLemmas
pub mod Steps

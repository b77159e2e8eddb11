-- Lemmas on notes and their texts.
pub mod WordLemmas
pub mod FormLemmas
pub mod PutNotes
pub mod HearingLemmas
pub mod Feeding
pub mod NotedPieces
pub mod DayFrames
pub mod SortedNotes
pub mod SourceFrames
pub mod OwnerLemmas
pub mod FirstShown
pub mod KeyRuns
pub mod NotedLists

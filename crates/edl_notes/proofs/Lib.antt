-- Lemmas on notes of timelines.
pub mod OwnNotes
pub mod MarkerSteps
pub mod ColorSteps
pub mod WalkSteps
pub mod RootSteps
pub mod FoundSteps

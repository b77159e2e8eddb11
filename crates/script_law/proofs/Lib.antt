-- Lemmas on scripts.
pub mod EditItems
pub mod Steps
pub mod Starting
pub mod EditedTimelines
pub mod WritableEdits
pub mod WritableScripts

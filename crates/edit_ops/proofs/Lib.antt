-- Lemmas on the plans of edits.
pub mod Tests
pub mod Beginning
pub mod Totals
pub mod Stripping
pub mod Items
pub mod Zoning
pub mod Holding
pub mod Steps
pub mod Kept
pub mod Counting
pub mod Answering
pub mod Fillings

-- Lemmas on cuts and edits.
pub mod NextStarts
pub mod RecordRates
pub mod FairItems

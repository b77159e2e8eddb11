-- Lemmas on logs.
pub mod SpaceLemmas
pub mod FieldLemmas
pub mod RowLemmas
pub mod HeadingLemmas
pub mod FirstLemmas
pub mod LeastLemmas
pub mod Gathering
pub mod LogRows
pub mod LabelDays
pub mod WidenLemmas
pub mod TapeLemmas
pub mod LineByLine
pub mod OneOutcome
pub mod PlainRows

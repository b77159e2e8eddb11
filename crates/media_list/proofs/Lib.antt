-- Lemmas on media lists.
pub mod SpanLemmas
pub mod TabLemmas
pub mod LookUps
pub mod OneOutcome
pub mod LineByLine

-- Lemmas on tables, and on the parts of JSON values.
pub mod Distinct
pub mod JsonParts

-- Lemmas on the reader of objects.
pub mod Asking
pub mod FirstShapes
pub mod KeptMembers
pub mod KindLemmas
pub mod Objects
pub mod Points
pub mod Sides
pub mod StillSpeeds
pub mod Counting
pub mod Exits
pub mod Measures
pub mod Members
pub mod Steps
pub mod Whole

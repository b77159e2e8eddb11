-- Lemmas on edit scripts.
pub mod WordLemmas
pub mod Figures
pub mod PlaceLemmas
pub mod Grammar
pub mod ActLemmas
pub mod Once
pub mod LineByLine
pub mod Texts
pub mod Bares
pub mod OnceRun
pub mod Outcomes
pub mod EachEdit
pub mod Changes
pub mod Puts
pub mod Loops
pub mod CommandLemmas

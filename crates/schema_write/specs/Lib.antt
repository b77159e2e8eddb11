-- Definitions of the JSON value of an object of OpenTimelineIO, and of its text.
pub mod Texts
pub mod Written
pub mod Objects
pub mod Tables
pub mod Reread
pub mod Lines
pub mod Styles
pub mod OldForms
pub mod OldWalk

-- What a script makes of a timeline.
pub mod Shown
pub mod Items

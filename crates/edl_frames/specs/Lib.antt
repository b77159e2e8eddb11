-- What lists show, the timelines that they stand for, the lists of timelines, and why either may
-- have none.
pub mod Shown
pub mod Conformed
pub mod Channels
pub mod Refused
pub mod Counted
pub mod Faults
pub mod Jobs
pub mod Seats
pub mod Homes
pub mod Sides
pub mod ChildEvents
pub mod ChildReasons
pub mod Carried
pub mod ReasonWords

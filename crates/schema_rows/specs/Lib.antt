-- Definitions of what a JSON value represents by the tables of OpenTimelineIO's schemas, and of its
-- first fault.
pub mod Rows
pub mod Schemas
pub mod Numerals
pub mod Readings
pub mod Defaults
pub mod Families
pub mod Stands
pub mod Counts
pub mod Faults

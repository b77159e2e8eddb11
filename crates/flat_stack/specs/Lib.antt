-- Flat timelines as the code makes them (their definitions stand in `flat`), and what is done with
-- sound timelines, step by step, and why there is nothing.
pub mod Spots
pub mod Runs
pub mod Blocking
pub mod Inputs
pub mod Givers
pub mod Straighten
pub mod Sought
pub mod Uncut
pub mod Ends
pub mod Passed
pub mod Placed
pub mod Misfits
pub mod Parts
pub mod Refused
pub mod Chains
pub mod Ready
pub mod Gathered
pub mod Shaped
pub mod Tooled
pub mod Portions

-- What plans of edits are made of, as the code has it: the edits are defined in `edits`.
pub mod Parts
pub mod Touched
pub mod Bounds
pub mod Meanings
pub mod Filled
pub mod Neighbours
pub mod Way
pub mod Amounts
pub mod Pins
pub mod Retimings
pub mod Planned
pub mod Ways

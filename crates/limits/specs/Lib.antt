-- Definitions of the limits.
pub mod Limits

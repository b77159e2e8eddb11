-- Definitions of edit decision lists of the CMX 3600 kind.
pub mod Limits
pub mod Speeds
pub mod Formed
pub mod Alike
pub mod Labelled
pub mod Layouts
pub mod Laws

-- Edits at any depth, and what they show.
pub mod Down
pub mod Through
pub mod Known
pub mod Editable
pub mod Kept
pub mod Worked

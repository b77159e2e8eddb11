-- Definitions of what the law of texts with notes says.
pub mod Law

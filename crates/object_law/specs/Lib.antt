-- What the laws of objects say.
pub mod One
pub mod Writable
pub mod Law

pub mod First
pub mod KeyWords
pub mod Lines
pub mod ReelNames

-- Definitions of logs, in the tab-separated form of Avid Log Exchange (ALE).
pub mod Words
pub mod Lines
pub mod Logs
pub mod Views
pub mod Tables

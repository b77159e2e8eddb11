-- Definitions of media lists.
pub mod Words
pub mod Lines
pub mod Lists
pub mod Plain
pub mod Views
pub mod Tables

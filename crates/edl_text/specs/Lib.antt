-- Definitions of what the lines of a list of events say, by themselves and together, and of the
-- text of a list.
pub mod EventForms
pub mod Notes
pub mod Numbers
pub mod Saying
pub mod Speeds
pub mod Statements
pub mod Views
pub mod StateLines
pub mod Order
pub mod Overlaps
pub mod StateSpans
pub mod Past
pub mod Sides
pub mod Events
pub mod Lines
pub mod Late
pub mod Lists
pub mod Reader
pub mod StateSides
pub mod StateSaid
pub mod StateLate
pub mod Columns
pub mod Rows
pub mod Spelling
pub mod Labelled
pub mod Wide

-- Definitions of the notes of a list, by what its lines say, and of the text of a list with notes.
pub mod Forms
pub mod Views
pub mod Heard
pub mod Belonging
pub mod NotedSpelling
pub mod Noted
pub mod Found
pub mod StateForms
pub mod StateHeard
pub mod Reader
pub mod StateShown
pub mod StateOwners

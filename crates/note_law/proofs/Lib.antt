-- Lemmas on notes.
pub mod NotedShows
pub mod NoteLines
pub mod NoteForms
pub mod LoudLines
pub mod NotedTexts
pub mod NotedHeard
pub mod NotesBack
pub mod NotesRead
pub mod NotedKept
pub mod NotedOnce
pub mod FoundOnce
pub mod NotedWritable
pub mod FoundOwn
pub mod HeardOnce

-- The notes of a list are those of its events.
use Rattle.std.proofs.Common.{ℕ, List}
use Rattle.edl_list.specs.Formed.{IsWellFormed}
use Rattle.edl_list.specs.declared.list.EventList.{EventList}
use Rattle.note_text.specs.Belonging.{AreNotes}
use Rattle.note_text.specs.declared.notes.Note.{Note}
use Rattle.note_text.proofs.NotedLists.{notes_for as all_for}
use Rattle.source_files.specs.Formats.{SuitsNotes}

-- notes of bytes are notes of the list
pub suits_notes : (bytes : List ℕ) (list : EventList) (notes : List Note) → IsWellFormed list
    → AreNotes bytes list notes → SuitsNotes list notes
suits_notes bytes list notes formed are =
    record { formed = formed; notes_for = all_for bytes list notes are }

use Rattle.std.proofs.Common.{◌≤◌, ◌<◌, ℕ, slice_index_or}
use Rattle.note_text.specs.declared.notes.Note.{Note}
use Rattle.note_text.proofs.writing.are_in_order.Given as goal

-- the notes so far stand in order, and none after the least event
abbrev pub invariant-notes : goal.invariant-notes
invariant-notes l = record {
  most : (j : ℕ) (d : Note) → j < l.note-index → (slice_index_or l.notes j d).event ≤ l.least;
  order : (i j : ℕ) (d : Note) → i < j → j < l.note-index → (slice_index_or l.notes i d).event ≤ (slice_index_or l.notes j d).event;
}

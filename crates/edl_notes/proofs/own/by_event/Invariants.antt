-- The notes so far are referred to.
use Rattle.std.proofs.Common.{◌≡◌, take}
use Rattle.edl_notes.specs.Steps.{notes_at}
use Rattle.edl_notes.proofs.own.by_event.Given as goal

abbrev pub invariant-notes : goal.invariant-notes
invariant-notes l = notes_at l.order.items ≡ take l.note-index l.notes

-- The markers of the notes so far were put.
use Rattle.std.proofs.Common.{take}
use Rattle.edl_notes.specs.Steps.{AddsMarkers, said_by}
use Rattle.edl_notes.proofs.markers.put_markers.Given as goal

abbrev pub invariant-notes : goal.invariant-notes
invariant-notes l = AddsMarkers l.rate l.event (said_by (take l.note-index l.notes)) l.fn.markers l.markers

use Rattle.std.proofs.Common.{◌≡◌, true}
use Rattle.note_text.specs.Belonging.{does_count}
use Rattle.edl_notes.proofs.MarkerSteps.{adds_next}
use Rattle.edl_notes.proofs.OwnNotes.{one_counts}
use Rattle.edl_notes.proofs.markers.put_markers.Goals as goal

pub put_marker-requires-clause-counts : goal.put_marker-requires-clause-counts
put_marker-requires-clause-counts c =
    one_counts (λ said. does_count c.args.rate c.args.event.now said ≡ true) c.args.notes.now c.notes.note-index c.note-item.result c.notes-test.true c.note-item.is c.requires.counts

pub notes-preserved : goal.notes-preserved
notes-preserved c =
    adds_next c.args.rate c.args.event.now c.args.notes.now c.notes.note-index c.note-item.result c.args.markers.now c.notes.markers c.put_marker.new.markers
    c.notes-test.true c.note-item.is c.in_ok-put_marker.ensures c.notes.invariant

-- What the markers so far say was put.
use Rattle.std.proofs.Common.{take}
use Rattle.note_text.specs.Found.{SayMarkers}
use Rattle.edl_notes.specs.Steps.{AddsSaid}
use Rattle.edl_notes.proofs.locators.put_locators.Given as goal

abbrev pub invariant-markers : goal.invariant-markers
invariant-markers l = AddsSaid l.shown.index (SayMarkers l.shown.rate l.shown.event.now (take l.marker-index l.markers)) l.fn.notes.items l.notes.items

-- The root children so far have their notes.
use Rattle.otio_model.specs.Trees.{items_of}
use Rattle.edl_notes.specs.Steps.{notes_at}
use Rattle.edl_notes.proofs.RootSteps.{HaveNoted}
use Rattle.edl_notes.proofs.tracks.noted_tracks.Given as goal

abbrev pub invariant-tracks : goal.invariant-tracks
invariant-tracks l = HaveNoted l.work.list.now (notes_at l.work.notes.now) (items_of l.tracks) l.index l.kinds l.copies.items

-- The others so far are copied.
use Rattle.std.proofs.Common.{drop}
use Rattle.otio_model.specs.Trees.{items_of}
use Rattle.flat_stack.proofs.TrackPlaces.{AreOthers}
use Rattle.flat_stack.proofs.flat_tracks.copy_others.Given as goal

abbrev pub invariant-children : goal.invariant-children
invariant-children l =
    AreOthers l.kind (drop l.from (items_of l.children)) l.fn.all.items l.all.items
    (drop l.index (items_of l.children))

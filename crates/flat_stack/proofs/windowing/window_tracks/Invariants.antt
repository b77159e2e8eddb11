-- The tracks so far are cut.
use Rattle.std.proofs.Common.{drop}
use Rattle.otio_model.specs.Trees.{items_of}
use Rattle.flat_stack.proofs.PassedLemmas.{AreWindowed}
use Rattle.flat_stack.proofs.windowing.window_tracks.Given as goal

abbrev pub invariant-children : goal.invariant-children
invariant-children l =
    AreWindowed l.rate l.from l.to l.done.items (drop l.index (items_of l.children))
    (items_of l.children)

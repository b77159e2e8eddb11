-- The stretches of the children so far.
use Rattle.otio_model.specs.Trees.{items_of}
use Rattle.flat_stack.specs.Runs.{IsAlong}
use Rattle.flat_stack.proofs.stretches.track_stretches.Given as goal

abbrev pub invariant-children : goal.invariant-children
invariant-children l =
    IsAlong l.track (items_of l.children) l.end l.all.items l.at l.index

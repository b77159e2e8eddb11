-- No child so far is a track of the kind.
use Rattle.std.proofs.Common.{◌≡◌, false, take}
use Rattle.otio_model.specs.Trees.{items_of}
use Rattle.flat.specs.Flattened.{has_kind}
use Rattle.flat_stack.proofs.flat_tracks.first_of.Given as goal

abbrev pub invariant-children : goal.invariant-children
invariant-children l = has_kind l.kind (take l.index (items_of l.children)) ≡ false

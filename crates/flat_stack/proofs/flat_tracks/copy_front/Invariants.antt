-- So many children are copied.
use Rattle.std.proofs.Common.{◌≡◌, take}
use Rattle.otio_model.specs.Trees.{items_of}
use Rattle.flat_stack.proofs.flat_tracks.copy_front.Given as goal

abbrev pub invariant-children : goal.invariant-children
invariant-children l = l.front.items ≡ take l.index (items_of l.children)

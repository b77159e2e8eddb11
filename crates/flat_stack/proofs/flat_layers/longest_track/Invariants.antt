-- How long the longest of the last root children is.
use Rattle.std.proofs.Common.{◌≡◌, ◌≤◌, ◌≤ℤ◌, length, drop, pos}
use Rattle.otio_model.specs.Trees.{items_of}
use Rattle.flat.specs.Pieces.{longest}
use Rattle.flat_stack.proofs.flat_layers.longest_track.Given as goal

abbrev pub invariant-children : goal.invariant-children
invariant-children l =
    (l.end ≡ longest l.kind (drop l.left (items_of l.children)))
    × (l.left ≤ length (items_of l.children)) × (pos 0 ≤ℤ l.end)
    × (l.end ≤ℤ pos 705600000000000000000000)

abbrev pub decreases-children : goal.decreases-children
decreases-children l = l.left

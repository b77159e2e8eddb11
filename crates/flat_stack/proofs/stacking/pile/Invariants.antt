-- The children so far, before those of the inputs that are left, are all.
use Rattle.std.proofs.Common.{◌≡◌, ◌++◌, vec_len}
use Rattle.std.specs.Prelude.{flat_map, reverse}
use Rattle.flat.specs.Roots.{roots}
use Rattle.flat_stack.proofs.stacking.pile.Given as goal

abbrev pub invariant-left : goal.invariant-left
invariant-left l =
    l.all.items ++ flat_map roots (reverse l.left.items) ≡ flat_map roots l.fn.inputs.items

abbrev pub decreases-left : goal.decreases-left
decreases-left l = vec_len l.left

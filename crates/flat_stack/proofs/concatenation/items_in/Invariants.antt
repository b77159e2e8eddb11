-- The items of the timelines so far.
use Rattle.std.proofs.Common.{◌≡◌, take}
use Rattle.otio_model.specs.Kept.{capped_count}
use Rattle.flat_stack.specs.Gathered.{items_in}
use Rattle.flat_stack.proofs.concatenation.items_in.Given as goal

abbrev pub invariant-inputs : goal.invariant-inputs
invariant-inputs l = l.items ≡ capped_count (items_in (take l.input-index l.inputs))

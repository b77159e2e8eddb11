-- The tracks so far are known and have a seat.
use Rattle.otio_model.specs.Trees.{items_of}
use Rattle.flat_stack.proofs.KnowLemmas.{AreSeated}
use Rattle.flat_stack.proofs.inputs.part_of.Given as goal

abbrev pub invariant-children : goal.invariant-children
invariant-children l = AreSeated l.tracks l.seats.items (items_of l.children) l.number

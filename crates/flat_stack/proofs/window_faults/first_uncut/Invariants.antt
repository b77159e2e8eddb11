-- The children so far can be cut.
use Rattle.otio_model.specs.Trees.{items_of}
use Rattle.flat_stack.specs.Uncut.{IsPassed}
use Rattle.flat_stack.proofs.window_faults.first_uncut.Given as goal

abbrev pub invariant-children : goal.invariant-children
invariant-children l = IsPassed (items_of l.children) l.from l.to l.index l.at

-- The children so far stand where they may.
use Rattle.otio_model.specs.Trees.{items_of}
use Rattle.flat_stack.specs.Blocking.{IsPassed}
use Rattle.flat_stack.proofs.join_checks.first_crossing.Given as goal

abbrev pub invariant-children : goal.invariant-children
invariant-children l = IsPassed l.is_first l.is_last (items_of l.children) l.index l.at

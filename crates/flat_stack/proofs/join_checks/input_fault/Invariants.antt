-- Nothing is wrong with the root children so far.
use Rattle.otio_model.specs.Trees.{items_of}
use Rattle.flat.specs.Joined.{JoinBlocks}
use Rattle.flat_stack.specs.Spots.{IsFreeTo}
use Rattle.flat_stack.proofs.join_checks.input_fault.Given as goal

abbrev pub invariant-children : goal.invariant-children
invariant-children l = IsFreeTo (JoinBlocks l.is_first l.is_last (items_of l.children)) l.index

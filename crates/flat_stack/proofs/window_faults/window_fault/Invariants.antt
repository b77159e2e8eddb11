-- Nothing is wrong with the root children so far.
use Rattle.otio_model.specs.Trees.{items_of}
use Rattle.flat.specs.Windowed.{WindowBlocks}
use Rattle.flat_stack.specs.Spots.{IsFreeTo}
use Rattle.flat_stack.proofs.window_faults.window_fault.Given as goal

abbrev pub invariant-children : goal.invariant-children
invariant-children l = IsFreeTo (WindowBlocks (items_of l.children) l.from l.to) l.index

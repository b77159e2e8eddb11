-- Nothing is wrong with the root children so far, whatever their parts are.
use Rattle.otio_model.specs.Trees.{items_of}
use Rattle.flat_stack.specs.Misfits.{Misfits}
use Rattle.flat_stack.specs.Spots.{IsFreeTo}
use Rattle.flat_stack.proofs.flat_faults.root_misfit.Given as goal

abbrev pub invariant-children : goal.invariant-children
invariant-children l = IsFreeTo (Misfits l.kind (items_of l.children)) l.index

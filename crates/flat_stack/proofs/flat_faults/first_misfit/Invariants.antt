-- Nothing is wrong with the children so far.
use Rattle.otio_model.specs.Trees.{items_of}
use Rattle.flat_stack.specs.Misfits.{AreFit}
use Rattle.flat_stack.proofs.flat_faults.first_misfit.Given as goal

abbrev pub invariant-children : goal.invariant-children
invariant-children l = AreFit (items_of l.children) l.index

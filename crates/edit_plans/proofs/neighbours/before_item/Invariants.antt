-- The children from there up to the index are transitions.
use Rattle.otio_model.specs.Trees.{items_of}
use Rattle.edit_plans.proofs.Beside.{Passed}
use Rattle.edit_plans.proofs.neighbours.before_item.Given as goal

abbrev pub invariant-children : goal.invariant-children
invariant-children l = Passed (items_of l.children) l.fn.index l.candidate

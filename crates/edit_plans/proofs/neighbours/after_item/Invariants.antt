-- The children after the index up to there are transitions.
use Rattle.otio_model.specs.Trees.{items_of}
use Rattle.edit_plans.proofs.Beside.{Skipped}
use Rattle.edit_plans.proofs.neighbours.after_item.Given as goal

abbrev pub invariant-children : goal.invariant-children
invariant-children l = Skipped (items_of l.children) l.fn.index l.candidate

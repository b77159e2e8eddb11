-- What is kept so far.
use Rattle.otio_model.specs.Trees.{items_of}
use Rattle.edit_plans.proofs.ZoneLemmas.{IsKept}
use Rattle.edit_plans.proofs.replaced_children.kept.Given as goal

abbrev pub invariant-children : goal.invariant-children
invariant-children l =
    IsKept (items_of l.children) l.fn.stretch.at l.fn.stretch.count l.from l.to l.kept.items l.start
    l.index

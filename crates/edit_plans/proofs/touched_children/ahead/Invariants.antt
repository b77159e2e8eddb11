-- What is passed, and what is still to be tested.
use Rattle.std.proofs.Common.{drop, length, ◌-◌}
use Rattle.otio_model.specs.Trees.{items_of}
use Rattle.edit_plans.specs.Parts.{IsPassed}
use Rattle.edit_plans.proofs.Passing.{Passing}
use Rattle.edit_plans.proofs.touched_children.ahead.Given as goal

abbrev pub invariant-children : goal.invariant-children
invariant-children l = (IsPassed (items_of l.children) l.passed.count l.passed.ticks)
    × Passing (items_of l.children) l.from l.to (drop l.passed.count (items_of l.children))
    l.passed.ticks l.passed.count

abbrev pub decreases-children : goal.decreases-children
decreases-children l = length (items_of l.children) - l.passed.count

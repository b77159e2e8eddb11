-- What is passed from the first that is met on, and how many there are up to the last that is.
use Rattle.std.proofs.Common.{drop, length, ◌-◌, ◌≤◌}
use Rattle.otio_model.specs.Trees.{items_of}
use Rattle.edits.specs.Narrow.{touched}
use Rattle.edit_plans.specs.Parts.{IsPassed}
use Rattle.edit_plans.proofs.Passing.{Reaching}
use Rattle.edit_plans.proofs.touched_children.touched.Given as goal

abbrev pub invariant-children : goal.invariant-children
invariant-children l = (IsPassed (items_of l.children) l.passed.count l.passed.ticks)
    × (l.ahead.count ≤ l.passed.count) × Reaching
    (length (touched (items_of l.children) l.from l.to))
    (drop l.passed.count (items_of l.children)) l.from l.to l.passed.ticks
    (l.passed.count - l.ahead.count) l.count l.passed.count

abbrev pub decreases-children : goal.decreases-children
decreases-children l = length (items_of l.children) - l.passed.count

-- None of the children so far is too long.
use Rattle.std.proofs.Common.{◌≡◌, drop}
use Rattle.otio_model.specs.Trees.{items_of}
use Rattle.edit_plans.specs.Ways.{has_long}
use Rattle.edit_plans.specs.Retimings.{ranged_from}
use Rattle.edit_plans.proofs.retiming.has_long.Given as goal

abbrev pub invariant-children : goal.invariant-children
invariant-children l = has_long (ranged_from l.at l.ranges (items_of l.children))
    ≡ has_long (drop l.index (ranged_from l.at l.ranges (items_of l.children)))

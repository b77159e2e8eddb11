-- How long the children so far are.
use Rattle.std.proofs.Common.{◌≡◌, take}
use Rattle.otio_model.specs.Sums.{capped}
use Rattle.otio_model.specs.Trees.{items_of}
use Rattle.edit_plans.specs.Amounts.{ticks_in}
use Rattle.edit_plans.specs.Retimings.{ranged_from}
use Rattle.edit_plans.proofs.retiming.come_ticks.Given as goal

abbrev pub invariant-children : goal.invariant-children
invariant-children l = l.all
    ≡ capped (ticks_in (take l.index (ranged_from l.at l.ranges (items_of l.children))))

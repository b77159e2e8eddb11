-- None of the children so far is stripped.
use Rattle.std.proofs.Common.{◌-◌, take, drop}
use Rattle.otio_model.specs.Trees.{items_of}
use Rattle.edit_plans.proofs.ZoneLemmas.{IsKept}
use Rattle.edit_trim.proofs.retimes.strips_none.Given as goal

abbrev pub invariant-children : goal.invariant-children
invariant-children l =
    IsKept (items_of l.children) l.fn.stretch.at l.fn.stretch.count l.fn.zone.from l.fn.zone.to
    (take (l.index - l.fn.stretch.at) (drop l.fn.stretch.at (items_of l.children))) l.start l.index

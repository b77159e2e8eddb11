-- What the children so far come to.
use Rattle.std.proofs.Common.{◌≡◌, ◌-◌, take, drop}
use Rattle.otio_model.specs.Trees.{items_of}
use Rattle.edit_plans.specs.Amounts.{amount_in}
use Rattle.edit_plans.proofs.totals.stretch_amount.Given as goal

abbrev pub invariant-children : goal.invariant-children
invariant-children l = l.all ≡ amount_in (take (l.index - l.at) (drop l.at (items_of l.children)))

-- What the items so far come to.
use Rattle.std.proofs.Common.{◌≡◌, take}
use Rattle.edit_plans.specs.Amounts.{amount_in}
use Rattle.edit_plans.proofs.totals.amount_of.Given as goal

abbrev pub invariant-items : goal.invariant-items
invariant-items l = l.all ≡ amount_in (take l.index l.list)

-- None of the items so far is too long.
use Rattle.std.proofs.Common.{◌≡◌, drop}
use Rattle.edit_plans.specs.Ways.{has_long}
use Rattle.edit_plans.proofs.enclosing_items.has_long.Given as goal

abbrev pub invariant-items : goal.invariant-items
invariant-items l = has_long l.list ≡ has_long (drop l.index l.list)

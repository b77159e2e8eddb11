-- The indexes so far.
use Rattle.std.proofs.Common.{◌≡◌, take}
use Rattle.edit_plans.proofs.pinning.front.Given as goal

abbrev pub invariant-indexes : goal.invariant-indexes
invariant-indexes l = l.front ≡ take l.at l.place

-- The indexes that are left.
use Rattle.std.proofs.Common.{length, ◌-◌}
use Rattle.edit_plans.proofs.pinning.+pin_of.Given as goal

abbrev pub decreases-pin_of : goal.decreases-pin_of
decreases-pin_of a = length a.place.now - a.depth

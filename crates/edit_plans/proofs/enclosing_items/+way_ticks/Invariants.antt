-- The indexes that are left.
use Rattle.std.proofs.Common.{length, ◌-◌}
use Rattle.edit_plans.proofs.enclosing_items.+way_ticks.Given as goal

abbrev pub decreases-way_ticks : goal.decreases-way_ticks
decreases-way_ticks a = length a.place.now - a.depth

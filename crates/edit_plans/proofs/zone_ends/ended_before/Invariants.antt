-- So many children are passed, and end before the instant.
use Rattle.std.proofs.Common.{◌-◌, ◌<◌, ◌<ℤ◌, drop, take}
use Rattle.otio_model.specs.Trees.{items_of}
use Rattle.edit_plans.specs.Parts.{IsPassed}
use Rattle.edit_plans.proofs.zone_ends.ended_before.Given as goal

abbrev pub invariant-children : goal.invariant-children
invariant-children l = record {
  passed : IsPassed (take l.stretch.count (drop l.stretch.at (items_of l.children))) l.passed.count
      l.passed.ticks;
  early : 0 < l.passed.count → l.passed.ticks <ℤ l.instant;
}

abbrev pub decreases-children : goal.decreases-children
decreases-children l = l.stretch.count - l.passed.count

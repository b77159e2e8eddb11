use Rattle.std.proofs.Common.{FitsSigned, refl}
use Rattle.std.proofs.lemmas.Int.{to_z-of_z}
use mir.Syntax.{w128}
use Rattle.tick_time.specs.Times.{IsInRange}
use Rattle.tick_time.proofs.NearTimes.{test_false, kept_low, kept_high, kept_whole}
use Rattle.tick_time.proofs.times.time_of_ticks.Goals as goal

pub returns-then-is_in_range-clause-time : goal.returns-then-is_in_range-clause-time
returns-then-is_in_range-clause-time c = (to_z-of_z w128 c.args.ticks c.ranges.ticks, refl)

pub returns-else-is_in_range-clause-fault : goal.returns-else-is_in_range-clause-fault
returns-else-is_in_range-clause-fault c =
    let ticks : FitsSigned w128 c.args.ticks = c.ranges.ticks in (
      refl,
      test_false c.is_in_range.result (IsInRange c.args.ticks) c.if-is_in_range.false
          (simp to_z-of_z at c.is_in_range.ensures),
    )

pub invariant_of-result-clause-low : goal.invariant_of-result-clause-low
invariant_of-result-clause-low c =
    let ticks : FitsSigned w128 c.args.ticks = c.ranges.ticks in
    let test = simp to_z-of_z at c.is_in_range.ensures in
    kept_low c.args.ticks c.ranges.ticks (test.0 c.if-is_in_range.true)

pub invariant_of-result-clause-high : goal.invariant_of-result-clause-high
invariant_of-result-clause-high c =
    let ticks : FitsSigned w128 c.args.ticks = c.ranges.ticks in
    let test = simp to_z-of_z at c.is_in_range.ensures in
    kept_high c.args.ticks c.ranges.ticks (test.0 c.if-is_in_range.true)

pub invariant_of-result-clause-whole : goal.invariant_of-result-clause-whole
invariant_of-result-clause-whole c = kept_whole c.args.ticks _ c.ranges.ticks c.requires

use Rattle.std.proofs.Common.{FitsSigned, rules}
use Rattle.std.proofs.lemmas.Int.{to_z-of_z}
use mir.Syntax.{w128}
use Rattle.tick_time.proofs.Wholes.{whole-one}
use Rattle.tick_time.proofs.NearTimes.{test_false, whole_test, near_kept, near_finest}
use Rattle.tick_time.proofs.times.Time.near.Goals as goal

pub is_whole-requires : goal.is_whole-requires
is_whole-requires c =
    let piece : FitsSigned w128 c.unit.result = search rules in
    simp to_z-of_z c.unit.ensures.positive

pub time_of_ticks-requires : goal.time_of_ticks-requires
time_of_ticks-requires c =
    let ticks : FitsSigned w128 c.args.ticks = c.ranges.ticks in
    let piece : FitsSigned w128 c.unit.result = search rules in
    let test = whole_test c.is_whole.result c.args.ticks c.unit.result c.args.rate
    (simp to_z-of_z at c.is_whole.ensures) c.unit.ensures.value in
    simp to_z-of_z (test.0 c.if-is_whole.true)

pub time_of_ticks-requires-else-is_whole : goal.time_of_ticks-requires-else-is_whole
time_of_ticks-requires-else-is_whole c =
    let ticks : FitsSigned w128 c.args.ticks = c.ranges.ticks in
    simp to_z-of_z (whole-one c.args.ticks c.finest_rate.result.num c.finest_rate.result.den
    c.finest_rate.ensures.num c.finest_rate.ensures.den)

pub returns-then-is_whole-clause-near : goal.returns-then-is_whole-clause-near
returns-then-is_whole-clause-near c =
    let ticks : FitsSigned w128 c.args.ticks = c.ranges.ticks in
    let piece : FitsSigned w128 c.unit.result = search rules in
    let test = whole_test c.is_whole.result c.args.ticks c.unit.result c.args.rate
    (simp to_z-of_z at c.is_whole.ensures) c.unit.ensures.value in
    near_kept c.time_of_ticks.result c.args.ticks c.args.rate (test.0 c.if-is_whole.true)
    (simp to_z-of_z at c.time_of_ticks.ensures.time)

pub returns-then-is_whole-clause-fault : goal.returns-then-is_whole-clause-fault
returns-then-is_whole-clause-fault c =
    let ticks : FitsSigned w128 c.args.ticks = c.ranges.ticks in
    simp to_z-of_z at c.time_of_ticks.ensures.fault

pub returns-else-is_whole-clause-near : goal.returns-else-is_whole-clause-near
returns-else-is_whole-clause-near c =
    let ticks : FitsSigned w128 c.args.ticks = c.ranges.ticks in
    let piece : FitsSigned w128 c.unit.result = search rules in
    let test = whole_test c.is_whole.result c.args.ticks c.unit.result c.args.rate
    (simp to_z-of_z at c.is_whole.ensures) c.unit.ensures.value in
    near_finest c.time_of_ticks-else-is_whole.result c.args.ticks c.args.rate c.finest_rate.result
    (test_false c.is_whole.result _ c.if-is_whole.false test) c.finest_rate.ensures.num
    c.finest_rate.ensures.den (simp to_z-of_z at c.time_of_ticks-else-is_whole.ensures.time)

pub returns-else-is_whole-clause-fault : goal.returns-else-is_whole-clause-fault
returns-else-is_whole-clause-fault c =
    let ticks : FitsSigned w128 c.args.ticks = c.ranges.ticks in
    simp to_z-of_z at c.time_of_ticks-else-is_whole.ensures.fault

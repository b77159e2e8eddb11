use Rattle.std.proofs.Common.{arith, rules, FitsSigned, ◌-ℤ◌}
use mir.Syntax.{w128}
use Rattle.std.proofs.lemmas.Int.{to_z-of_z, ints}
use Rattle.flat_stack.proofs.ZoneLemmas.{no_order, no_start, no_first, no_last, zone_is}
use Rattle.flat_stack.proofs.zones.zone_of.Goals as goal

pub returns-then-a-b-clause-none : goal.returns-then-a-b-clause-none
returns-then-a-b-clause-none c = no_order c.args.timeline.now c.args.a c.args.b (omega (arith, ints))

pub returns-then-a-start_frame-clause-none : goal.returns-then-a-start_frame-clause-none
returns-then-a-start_frame-clause-none c =
    let fits : FitsSigned w128 c.start_frame.result = search rules in
    no_start c.args.timeline.now c.args.a c.args.b c.start_frame.result c.start_frame.ensures (omega (arith, ints))

pub returns-in-None-frame_time-clause-none : goal.returns-in-None-frame_time-clause-none
returns-in-None-frame_time-clause-none c =
    let fits = c.ranges.b in
    let none = simp to_z-of_z at c.in-None-frame_time.ensures.none in
    no_last c.args.timeline.now c.args.a c.args.b c.flat_rate-rate.result c.flat_rate-rate.ensures none

pub returns-in-None-clause-none : goal.returns-in-None-clause-none
returns-in-None-clause-none c =
    let fits = c.ranges.a in
    let none = simp to_z-of_z at c.in-None.ensures.none in
    no_first c.args.timeline.now c.args.a c.args.b c.flat_rate-rate.result c.flat_rate-rate.ensures none

pub returns-in-Some-frame_time-clause-some : goal.returns-in-Some-frame_time-clause-some
returns-in-Some-frame_time-clause-some c =
    let fits_a = c.ranges.a in
    let fits_b = c.ranges.b in
    let fits_begin : FitsSigned w128 c.start_frame.result = search rules in
    let fits_start : FitsSigned w128 c.in-Some.start.ticks = omega (arith, ints, c.in-Some.start.low, c.in-Some.start.high) in
    let fits_end : FitsSigned w128 c.in-Some-frame_time.end.ticks = omega (arith, ints, c.in-Some-frame_time.end.low, c.in-Some-frame_time.end.high) in
    let fits_first : FitsSigned w128 c.first_ticks-first.result = omega (arith, ints, c.first_ticks-first.ensures.low, c.first_ticks-first.ensures.high) in
    let fits_from : FitsSigned w128 (c.in-Some.start.ticks -ℤ c.first_ticks-first.result) = omega (arith, ints, c.in-Some.start.low, c.in-Some.start.high, c.first_ticks-first.ensures.low, c.first_ticks-first.ensures.high) in
    let fits_to : FitsSigned w128 (c.in-Some-frame_time.end.ticks -ℤ c.first_ticks-first.result) = omega (arith, ints, c.in-Some-frame_time.end.low, c.in-Some-frame_time.end.high, c.first_ticks-first.ensures.low, c.first_ticks-first.ensures.high) in
    let start_is = simp to_z-of_z at c.in-Some.ensures.ticks in
    let end_is = simp to_z-of_z at c.in-Some-frame_time.ensures.ticks in
    simp to_z-of_z (zone_is c.args.timeline.now c.args.a c.args.b c.first_ticks-first.result c.start_frame.result c.flat_rate-rate.result c.in-Some.start c.in-Some-frame_time.end c.requires.start c.flat_rate-rate.ensures c.start_frame.ensures c.first_ticks-first.ensures.value
    (omega (arith, ints)) (omega (arith, ints)) start_is c.in-Some.ensures.rate end_is)

pub overflow_sub-result : goal.overflow_sub-result
overflow_sub-result c =
    let fits_start : FitsSigned w128 c.in-Some.start.ticks = omega (arith, ints, c.in-Some.start.low, c.in-Some.start.high) in
    let fits_first : FitsSigned w128 c.first_ticks-first.result = omega (arith, ints, c.first_ticks-first.ensures.low, c.first_ticks-first.ensures.high) in
    let fits_from : FitsSigned w128 (c.in-Some.start.ticks -ℤ c.first_ticks-first.result) = omega (arith, ints, c.in-Some.start.low, c.in-Some.start.high, c.first_ticks-first.ensures.low, c.first_ticks-first.ensures.high) in
    simp to_z-of_z fits_from

pub overflow_sub-result-in-Some-frame_time : goal.overflow_sub-result-in-Some-frame_time
overflow_sub-result-in-Some-frame_time c =
    let fits_end : FitsSigned w128 c.in-Some-frame_time.end.ticks = omega (arith, ints, c.in-Some-frame_time.end.low, c.in-Some-frame_time.end.high) in
    let fits_first : FitsSigned w128 c.first_ticks-first.result = omega (arith, ints, c.first_ticks-first.ensures.low, c.first_ticks-first.ensures.high) in
    let fits_to : FitsSigned w128 (c.in-Some-frame_time.end.ticks -ℤ c.first_ticks-first.result) = omega (arith, ints, c.in-Some-frame_time.end.low, c.in-Some-frame_time.end.high, c.first_ticks-first.ensures.low, c.first_ticks-first.ensures.high) in
    simp to_z-of_z fits_to

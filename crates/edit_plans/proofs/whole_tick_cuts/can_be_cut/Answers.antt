use Rattle.std.proofs.Common.{arith}
use Rattle.std.proofs.lemmas.Int.{ints}
use Rattle.otio_model.specs.Trees.{items_of}
use Rattle.pieces.proofs.Faultless.{faultless_short}
use Rattle.edit_plans.proofs.Holding.{seated, whole_seat, whole_nowhere}
use Rattle.edit_plans.proofs.whole_tick_cuts.can_be_cut.Goals as goal

pub overflow_sub-ticks : goal.overflow_sub-ticks
overflow_sub-ticks c =
    let k = seated (items_of c.args.children.now) _ c.in-Some.seat.index c.in-Some.seat.start
    c.child.result.now c.in-Some.ensures.held c.child.ensures in
    omega (arith, ints, c.ranges.ticks, k.low, k.not_before)

pub is_whole_at-requires-clause-faultless : goal.is_whole_at-requires-clause-faultless
is_whole_at-requires-clause-faultless c =
    c.requires.faultless c.in-Some.seat.index c.child.result.now c.child.ensures

pub is_whole_at-requires-clause-low : goal.is_whole_at-requires-clause-low
is_whole_at-requires-clause-low c =
    let k = seated (items_of c.args.children.now) _ c.in-Some.seat.index c.in-Some.seat.start
    c.child.result.now c.in-Some.ensures.held c.child.ensures in
    omega (arith, ints, c.ranges.ticks, k.low, k.not_before)

pub is_whole_at-requires-clause-high : goal.is_whole_at-requires-clause-high
is_whole_at-requires-clause-high c =
    let k = seated (items_of c.args.children.now) _ c.in-Some.seat.index c.in-Some.seat.start
    c.child.result.now c.in-Some.ensures.held c.child.ensures in
    let f = c.requires.faultless c.in-Some.seat.index c.child.result.now c.child.ensures in
    let short = faultless_short c.child.result.now f.sound in
    omega (arith, ints, c.ranges.ticks, k.low, k.not_before, k.not_behind, short)

pub returns-in-Some : goal.returns-in-Some
returns-in-Some c =
    let k = seated (items_of c.args.children.now) _ c.in-Some.seat.index c.in-Some.seat.start
    c.child.result.now c.in-Some.ensures.held c.child.ensures in
    whole_seat (items_of c.args.children.now) _ c.args.ticks _ c.in-Some.seat.start
    c.in-Some.seat.index c.child.result.now c.is_whole_at.result k c.child.ensures
    c.requires.low (omega (arith, ints, c.ranges.ticks))
    (omega (arith, ints, c.ranges.ticks, k.low, k.not_before)) c.is_whole_at.ensures

pub returns-in-None : goal.returns-in-None
returns-in-None c =
    whole_nowhere (items_of c.args.children.now) _ c.args.ticks c.in-None.ensures.none
    (omega (arith, ints, c.ranges.ticks)) c.requires.low

use Rattle.std.proofs.Common.{arith, refl, to_z, of_z}
use mir.Syntax.{w128}
use Rattle.std.proofs.lemmas.Int.{ints}
use Rattle.otio_model.specs.Trees.{items_of}
use Rattle.otio_model.proofs.LengthLimits.{few_enough}
use Rattle.edit_plans.proofs.Further.{met-as, passed-near, started-met}
use Rattle.edit_plans.proofs.touched_children.started_at.Goals as goal

pub is_met-requires-clause-low : goal.is_met-requires-clause-low
is_met-requires-clause-low c =
    let near = passed-near c.args.children.now c.args.seat.index c.args.seat.start c.requires.few
    c.requires.short c.requires.seat in
    omega (arith, ints, near.0, near.1)

pub is_met-requires-clause-high : goal.is_met-requires-clause-high
is_met-requires-clause-high c =
    let near = passed-near c.args.children.now c.args.seat.index c.args.seat.start c.requires.few
    c.requires.short c.requires.seat in
    omega (arith, ints, near.0, near.1)

pub is_met-requires-clause-short : goal.is_met-requires-clause-short
is_met-requires-clause-short c =
    c.requires.short c.args.seat.index c.child-item.result.now c.child-item.ensures

pub overflow_add-result : goal.overflow_add-result
overflow_add-result c =
    let fewer = few_enough c.args.children.now c.requires.few in
    omega (arith, fewer, c.requires.there)

pub ticks_of-requires : goal.ticks_of-requires
ticks_of-requires c =
    c.requires.short c.args.seat.index c.child-item.result.now c.child-item.ensures

pub overflow_add-result-then-is_met : goal.overflow_add-result-then-is_met
overflow_add-result-then-is_met c =
    let near = passed-near c.args.children.now c.args.seat.index c.args.seat.start c.requires.few
    c.requires.short c.requires.seat in
    omega (arith, ints, near.0, near.1, c.ticks_of.ensures.low, c.ticks_of.ensures.high)

pub returns-then-is_met : goal.returns-then-is_met
returns-then-is_met c =
    let near = passed-near c.args.children.now c.args.seat.index c.args.seat.start c.requires.few
    c.requires.short c.requires.seat in
    let t = c.ticks_of.ensures in
    started-met (items_of c.args.children.now) c.args.from c.args.to
    (to_z w128 (of_z w128 c.args.from)) (to_z w128 (of_z w128 c.args.to)) c.args.seat.start _
    c.args.ahead.count
    c.args.seat.index _ c.child-item.result.now c.is_met.result c.requires.seat
    c.child-item.ensures (omega (arith, c.if-seat-ahead.false))
    (met-as c.child-item.result.now _ _ _ c.args.seat.start _ c.is_met.ensures
    (omega (arith, ints, near.0, near.1)))
    c.if-is_met.true (omega (arith, ints, c.ranges.from)) (omega (arith, ints, c.ranges.to)) refl
    (omega (arith, ints, near.0, near.1, t.value, t.low, t.high))

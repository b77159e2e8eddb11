use Rattle.std.proofs.Common.{arith}
use Rattle.std.proofs.lemmas.Int.{ints, to_z-of_z}
use Rattle.otio_model.specs.Trees.{items_of}
use Rattle.edit_ops.proofs.Counting.{taken-kept}
use Rattle.edit_ops.proofs.Holding.{index_held, is_holding, item-is_taken, none-fault}
use Rattle.edit_ops.proofs.Kept.{begun-at_frame}
use Rattle.edit_ops.proofs.item_at.item_held.Goals as goal

pub returns-in-Err-clause-fault : goal.returns-in-Err-clause-fault
returns-in-Err-clause-fault c =
    let at = c.ranges.at in
    λ e a b _. (simp to_z-of_z at c.in-Err.ensures.fault) e a b

pub track_of-children-requires-clause-there : goal.track_of-children-requires-clause-there
track_of-children-requires-clause-there c = c.in-Ok.ensures.begun.there

pub child-item-requires : goal.child-item-requires
child-item-requires c =
    index_held (items_of c.track_of-children.result.now) _ c.in-Some.seat.index _
    c.in-Some.ensures.held

pub sound_ticks-requires : goal.sound_ticks-requires
sound_ticks-requires c =
    c.track_of-children.ensures.faultless c.in-Some.seat.index c.child-item.result.now
    c.child-item.ensures

pub invariant_of-result : goal.invariant_of-result
invariant_of-result c =
    let b = begun-at_frame c.args.at c.ranges.at c.in-Ok.ensures.begun in
    let h = is_holding (items_of c.track_of-children.result.now) c.in-Ok.moment.instant _
    c.in-Some.seat.index c.in-Some.seat.start c.sound_ticks.result c.child-item.result.now _
    c.in-Some.ensures.held (omega (arith, ints, b.low, b.high)) c.child-item.ensures
    c.sound_ticks.ensures.value c.sound_ticks.ensures.high c.is_gap.ensures in
    record {
      low = omega (arith, ints, h.low, h.high, b.high);
      late = omega (arith, ints, h.low, h.high, b.high);
      high = omega (arith, ints, b.low, b.high);
      some = omega (arith, ints, h.some, h.short);
      short = omega (arith, ints, h.some, h.short);
    }

pub returns-in-Some-clause-held : goal.returns-in-Some-clause-held
returns-in-Some-clause-held c =
    let b = begun-at_frame c.args.at c.ranges.at c.in-Ok.ensures.begun in
    taken-kept c.args.timeline.now c.args.place.now c.args.at _ _ _ _ _
    (item-is_taken c.args.timeline.now c.args.place.now c.args.at _ _ _ c.in-Some.seat.index _ _
    c.child-item.result.now _ (items_of c.track_of-children.result.now) b
    c.track_of-children.ensures.list c.in-Some.ensures.held (omega (arith, ints, b.low, b.high))
    c.child-item.ensures c.sound_ticks.ensures.value c.sound_ticks.ensures.high c.is_gap.ensures)

pub returns-in-None-clause-fault : goal.returns-in-None-clause-fault
returns-in-None-clause-fault c =
    let b = begun-at_frame c.args.at c.ranges.at c.in-Ok.ensures.begun in
    none-fault c.args.timeline.now c.args.place.now c.args.at _ _ _ _ b
    c.track_of-children.ensures.list c.in-None.ensures.none
    (omega (arith, ints, b.low, b.high))

use Rattle.std.proofs.Common.{[], ◌∷◌}
use Rattle.std.proofs.lemmas.Int.{to_z-of_z}
use Rattle.edits.specs.Children.{Old}
use Rattle.edits.specs.Refusals.{at_once}
use Rattle.edit_ops.proofs.Answering.{answer-memory, answer-refused}
use Rattle.edit_ops.specs.Answered.{put_edit}
use Rattle.edit_ops.proofs.Counting.{put-counted}
use Rattle.edit_ops.proofs.Kept.{begun-at_frame, track-begun}
use Rattle.edit_ops.proofs.Steps.{put_empty, put_frame, put_place}
use Rattle.edit_ops.proofs.list_edits.plan_put.Goals as goal

pub returns-in-Err : goal.returns-in-Err
returns-in-Err c =
    let at = c.ranges.at in
    let over = c.args.placing.over in
    let item = c.args.placing.item in
    answer-refused _ _ _ (λ _. at_once ((simp to_z-of_z at c.in-Err.ensures.fault)
    (put_edit over c.args.place c.args.at item) (put_place over c.args.place c.args.at item)
    (put_frame over c.args.place c.args.at item)))

pub returns-then-is_empty : goal.returns-then-is_empty
returns-then-is_empty c = answer-refused _ _ _ (λ _. at_once (put_empty
    c.args.placing.over c.args.timeline.now c.args.place c.args.at c.args.placing.item _ _ _
    (begun-at_frame c.args.at c.ranges.at c.in-Ok.ensures.begun)
    c.is_empty.ensures c.if-is_empty.true))

pub plan_cuts-requires-clause-track : goal.plan_cuts-requires-clause-track
plan_cuts-requires-clause-track c =
    track-begun c.slot_from-slot.ensures.rate c.in-Ok.ensures.begun

pub plan_cuts-requires-clause-edit : goal.plan_cuts-requires-clause-edit
plan_cuts-requires-clause-edit c = (
  put_edit c.args.placing.over c.args.place c.args.at c.args.placing.item,
  (
    Old c.args.placing.item ∷ [],
    put-counted c.args.placing.over c.args.timeline.now c.args.place c.args.at c.args.placing.item
        _ _ _ _ _ _ _ _ _ c.requires.item
        (begun-at_frame c.args.at c.ranges.at c.in-Ok.ensures.begun)
        c.is_empty.ensures c.if-is_empty.false c.item_ticks-ticks.ensures.value
        c.item_ticks-ticks.ensures.low c.item_ticks-ticks.ensures.high c.zone_ticks.ensures.value
        c.zone_ticks.ensures.low c.zone_ticks.ensures.high c.slot_from-slot.ensures.from
        c.slot_from-slot.ensures.to c.slot_from-slot.ensures.ticks c.in-Ok-one.ensures,
  ),
)

pub returns-in-Ok-one : goal.returns-in-Ok-one
returns-in-Ok-one c = c.plan_cuts.ensures _ (
  _,
  put-counted c.args.placing.over c.args.timeline.now c.args.place c.args.at c.args.placing.item
      _ _ _ _ _ _ _ _ _ c.requires.item
      (begun-at_frame c.args.at c.ranges.at c.in-Ok.ensures.begun)
      c.is_empty.ensures c.if-is_empty.false c.item_ticks-ticks.ensures.value
      c.item_ticks-ticks.ensures.low c.item_ticks-ticks.ensures.high c.zone_ticks.ensures.value
      c.zone_ticks.ensures.low c.zone_ticks.ensures.high c.slot_from-slot.ensures.from
      c.slot_from-slot.ensures.to c.slot_from-slot.ensures.ticks c.in-Ok-one.ensures,
)

pub returns-in-Err-one : goal.returns-in-Err-one
returns-in-Err-one c = answer-memory _ _

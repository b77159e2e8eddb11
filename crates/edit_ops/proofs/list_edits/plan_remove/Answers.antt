use Rattle.std.proofs.Common.{refl}
use Rattle.std.proofs.lemmas.Int.{to_z-of_z}
use Rattle.otio_model.specs.declared.edit_types.Edit.TheVariants as A
use Rattle.edits.specs.Refusals.{at_once}
use Rattle.edit_ops.proofs.Answering.{answer-memory, answer-refused}
use Rattle.edit_ops.specs.Zoned.{in_place}
use Rattle.edit_ops.proofs.Counting.{remove-counted}
use Rattle.edit_ops.proofs.Kept.{taken-at_frame, track-begun}
use Rattle.edit_ops.proofs.list_edits.plan_remove.Goals as goal

pub plan_zone-requires-clause-track : goal.plan_zone-requires-clause-track
plan_zone-requires-clause-track c =
    track-begun c.slot_from-slot.ensures.rate c.in-Ok.ensures.held.begun

pub plan_zone-requires-clause-edit : goal.plan_zone-requires-clause-edit
plan_zone-requires-clause-edit c = (
  A.Remove c.args.place c.args.at c.args.mode,
  (
    in_place c.args.mode c.in-Ok.hold.ticks,
    remove-counted c.args.timeline.now c.args.place c.args.at c.args.mode _ _ _ _ _ _ _ _ _ _
        (taken-at_frame c.args.at c.ranges.at c.in-Ok.ensures.held)
        c.left_ticks-ticks.ensures.value c.left_ticks-ticks.ensures.low
        c.left_ticks-ticks.ensures.high c.slot_from-slot.ensures.from c.slot_from-slot.ensures.to
        c.slot_from-slot.ensures.ticks c.in-Ok-left.ensures.made c.in-Ok-left.ensures.few,
  ),
)

pub returns-in-Ok-left : goal.returns-in-Ok-left
returns-in-Ok-left c = c.plan_zone.ensures _ (
  _,
  remove-counted c.args.timeline.now c.args.place c.args.at c.args.mode _ _ _ _ _ _ _ _ _ _
      (taken-at_frame c.args.at c.ranges.at c.in-Ok.ensures.held)
      c.left_ticks-ticks.ensures.value c.left_ticks-ticks.ensures.low
      c.left_ticks-ticks.ensures.high c.slot_from-slot.ensures.from c.slot_from-slot.ensures.to
      c.slot_from-slot.ensures.ticks c.in-Ok-left.ensures.made c.in-Ok-left.ensures.few,
)

pub returns-in-Err-left : goal.returns-in-Err-left
returns-in-Err-left c = answer-memory _ _

pub returns-in-Err : goal.returns-in-Err
returns-in-Err c =
    let at = c.ranges.at in
    answer-refused _ _ _ (λ _. at_once ((simp to_z-of_z at c.in-Err.ensures.fault)
    (A.Remove c.args.place c.args.at c.args.mode) refl refl refl))

use Rattle.std.proofs.Common.{refl, [], ◌∷◌}
use Rattle.std.proofs.lemmas.Int.{to_z-of_z}
use Rattle.otio_model.specs.declared.edit_types.Edit.TheVariants as A
use Rattle.edits.specs.Edits.{filling}
use Rattle.edits.specs.Refusals.{at_once}
use Rattle.edit_ops.proofs.Answering.{answer-refused}
use Rattle.edit_ops.proofs.Counting.{fill-counted, fill-not_gap, fill-of_nothing, fill-unfit}
use Rattle.edit_ops.proofs.Kept.{taken-at_frame, track-begun}
use Rattle.edit_ops.proofs.list_edits.plan_fill.Goals as goal

pub returns-in-Err : goal.returns-in-Err
returns-in-Err c =
    let at = c.ranges.at in
    answer-refused _ _ _ (λ _. at_once ((simp to_z-of_z at c.in-Err.ensures.fault)
    (A.Fill c.args.place c.args.at c.args.filling.mode c.args.filling.item) refl refl refl))

pub returns-then-not-hold : goal.returns-then-not-hold
returns-then-not-hold c = answer-refused _ _ _ (λ _. at_once (fill-not_gap
    c.args.timeline.now c.args.place c.args.at c.args.filling.mode c.args.filling.item _ _ _ _ _
    (taken-at_frame c.args.at c.ranges.at c.in-Ok.ensures.held) c.if-not-hold.true))

pub returns-then-is_empty : goal.returns-then-is_empty
returns-then-is_empty c = answer-refused _ _ _ (λ _. at_once (fill-of_nothing
    c.args.timeline.now c.args.place c.args.at c.args.filling.mode c.args.filling.item _ _ _ _ _ _
    (taken-at_frame c.args.at c.ranges.at c.in-Ok.ensures.held) c.if-not-hold.false
    c.is_empty.ensures c.if-is_empty.true))

pub plan_cuts-requires-clause-track : goal.plan_cuts-requires-clause-track
plan_cuts-requires-clause-track c =
    track-begun c.slot_from-slot.ensures.rate c.in-Ok.ensures.held.begun

pub plan_cuts-requires-clause-edit : goal.plan_cuts-requires-clause-edit
plan_cuts-requires-clause-edit c = (
  A.Fill c.args.place c.args.at c.args.filling.mode c.args.filling.item,
  (
    filling c.args.filling.mode c.args.filling.item c.in-Ok.hold.ticks ∷ [],
    fill-counted c.args.timeline.now c.args.place c.args.at c.args.filling.mode c.args.filling.item
        _ _ _ _ _ _ _ _ _ _ _ c.requires.item
        (taken-at_frame c.args.at c.ranges.at c.in-Ok.ensures.held) c.if-not-hold.false
        c.is_empty.ensures c.if-is_empty.false c.item_filling_ticks-ticks.ensures.value
        c.item_filling_ticks-ticks.ensures.low c.item_filling_ticks-ticks.ensures.high
        c.slot_from-slot.ensures.from c.slot_from-slot.ensures.to c.slot_from-slot.ensures.ticks
        c.in-Ok-filled.ensures.right c.in-Ok-filled.ensures.whole c.in-Ok-filled.ensures.made
        c.in-Ok-filled.ensures.few,
  ),
)

pub returns-in-Ok-filled : goal.returns-in-Ok-filled
returns-in-Ok-filled c = c.plan_cuts.ensures _ (
  _,
  fill-counted c.args.timeline.now c.args.place c.args.at c.args.filling.mode c.args.filling.item
      _ _ _ _ _ _ _ _ _ _ _ c.requires.item
      (taken-at_frame c.args.at c.ranges.at c.in-Ok.ensures.held) c.if-not-hold.false
      c.is_empty.ensures c.if-is_empty.false c.item_filling_ticks-ticks.ensures.value
      c.item_filling_ticks-ticks.ensures.low c.item_filling_ticks-ticks.ensures.high
      c.slot_from-slot.ensures.from c.slot_from-slot.ensures.to c.slot_from-slot.ensures.ticks
      c.in-Ok-filled.ensures.right c.in-Ok-filled.ensures.whole c.in-Ok-filled.ensures.made
      c.in-Ok-filled.ensures.few,
)

pub returns-in-Err-filled : goal.returns-in-Err-filled
returns-in-Err-filled c = answer-refused _ _ _ (λ free. at_once (fill-unfit
    c.args.timeline.now c.args.place c.args.at c.args.filling.mode c.args.filling.item _ _ _ _ _ _ _
    (taken-at_frame c.args.at c.ranges.at c.in-Ok.ensures.held) c.if-not-hold.false
    c.is_empty.ensures c.if-is_empty.false free (c.in-Err-filled.ensures.fault free)))

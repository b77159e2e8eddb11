use Rattle.std.proofs.Common.{refl, []}
use Rattle.std.proofs.lemmas.Int.{to_z-of_z}
use Rattle.otio_model.specs.declared.edit_types.Edit.TheVariants as A
use Rattle.edits.specs.Refusals.{at_once}
use Rattle.edit_ops.proofs.Answering.{answer-refused}
use Rattle.edit_ops.proofs.Counting.{slice-counted}
use Rattle.edit_ops.proofs.Kept.{taken-at_frame, track-begun}
use Rattle.edit_ops.proofs.list_edits.plan_slice.Goals as goal

pub plan_cuts-requires-clause-track : goal.plan_cuts-requires-clause-track
plan_cuts-requires-clause-track c =
    track-begun c.slot_from-slot.ensures.rate c.in-Ok.ensures.held.begun

pub plan_cuts-requires-clause-edit : goal.plan_cuts-requires-clause-edit
plan_cuts-requires-clause-edit c = (
  A.Slice c.args.place c.args.at,
  (
    [],
    slice-counted c.args.timeline.now c.args.place c.args.at _ _ _ _ _ _ _ _ _
        (taken-at_frame c.args.at c.ranges.at c.in-Ok.ensures.held) c.slot_from-slot.ensures.from
        c.slot_from-slot.ensures.to c.slot_from-slot.ensures.ticks c.new-new.ensures.items,
  ),
)

pub returns-in-Ok : goal.returns-in-Ok
returns-in-Ok c = c.plan_cuts.ensures _ (
  _,
  slice-counted c.args.timeline.now c.args.place c.args.at _ _ _ _ _ _ _ _ _
      (taken-at_frame c.args.at c.ranges.at c.in-Ok.ensures.held) c.slot_from-slot.ensures.from
      c.slot_from-slot.ensures.to c.slot_from-slot.ensures.ticks c.new-new.ensures.items,
)

pub returns-in-Err : goal.returns-in-Err
returns-in-Err c =
    let at = c.ranges.at in
    answer-refused _ _ _ (λ _. at_once ((simp to_z-of_z at c.in-Err.ensures.fault)
    (A.Slice c.args.place c.args.at) refl refl refl))

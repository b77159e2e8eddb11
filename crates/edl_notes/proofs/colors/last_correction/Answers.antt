use Rattle.edl_notes.proofs.ColorSteps.{sop_next}
use Rattle.edl_notes.proofs.colors.last_correction.Goals as goal

pub notes-preserved : goal.notes-preserved
notes-preserved c =
    sop_next c.args.notes.now c.notes.note-index c.note-item.result _ _ c.notes-test.true c.note-item.is c.later_correction-last.ensures c.notes.invariant

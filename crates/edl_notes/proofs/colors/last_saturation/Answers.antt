use Rattle.edl_notes.proofs.ColorSteps.{sat_next}
use Rattle.edl_notes.proofs.colors.last_saturation.Goals as goal

pub notes-preserved : goal.notes-preserved
notes-preserved c =
    sat_next c.args.notes.now c.notes.note-index c.note-item.result _ _ c.notes-test.true c.note-item.is c.later_saturation-last.ensures c.notes.invariant

use Rattle.std.proofs.Common.{ap}
use Rattle.otio_tools.specs.Events.{Spelled}
use Rattle.otio_tools.specs.Forms.{done}
use Rattle.otio_tools.proofs.WrittenNotes.{noted_once, notes_fit}
use Rattle.otio_tools.proofs.list_to_list.noted_list_to_write.Goals as goal

pub returns-in-Ok-notes_by_event-clause-owed : goal.returns-in-Ok-notes_by_event-clause-owed
returns-in-Ok-notes_by_event-clause-owed c = λ name target.
    rw (← c.is_drop-drop.ensures)
    (Spelled c.in-Ok.ensures.fits.can c.in-Ok.ensures.fits.labelled
    (ap (done target) (noted_once c.args.list c.in-Ok-notes_by_event.notes _ _ c.args.wide
    (rw (← c.notes_below_day.ensures) c.in-Ok-notes_by_event.ensures.own))))

pub returns-in-Ok-notes_by_event-clause-fits : goal.returns-in-Ok-notes_by_event-clause-fits
returns-in-Ok-notes_by_event-clause-fits c = record {
  list_can = c.in-Ok.ensures.fits;
  notes_can = notes_fit c.args.list _ c.args.notes c.in-Ok-notes_by_event.notes c.requires.notes_for
      (rw (← c.notes_below_day.ensures) c.in-Ok-notes_by_event.ensures.own);
}

pub returns-in-Err-clause-owed : goal.returns-in-Err-clause-owed
returns-in-Err-clause-owed c = λ name target.
    rw (← c.is_drop-drop.ensures) (c.in-Err.ensures.refused _ name target)

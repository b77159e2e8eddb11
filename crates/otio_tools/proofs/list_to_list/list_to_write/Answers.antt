use Rattle.std.proofs.Common.{refl}
use Rattle.otio_tools.specs.Events.{Spelled}
use Rattle.otio_tools.proofs.list_to_list.list_to_write.Goals as goal

pub returns-in-Ok-clause-owed : goal.returns-in-Ok-clause-owed
returns-in-Ok-clause-owed c = λ name target.
    rw (← c.is_drop-drop.ensures)
    (Spelled c.in-Ok.ensures.fits.can c.in-Ok.ensures.fits.labelled refl)

pub returns-in-Err-clause-owed : goal.returns-in-Err-clause-owed
returns-in-Err-clause-owed c = λ name target.
    rw (← c.is_drop-drop.ensures) (c.in-Err.ensures.refused _ name target)

use Rattle.std.proofs.Common.{refl, sym, ap}
use Rattle.otio_tools.specs.Forms.{refused}
use Rattle.otio_tools.specs.Frames.{Listed, NoLabel}
use Rattle.otio_tools.proofs.frames_command.rows_of.Goals as goal

pub returns-in-Some-clause-owed : goal.returns-in-Some-clause-owed
returns-in-Some-clause-owed c =
    λ name target. Listed c.requires.sound c.in-Some.listing (sym c.in-Some.ensures) refl

pub returns-in-None-clause-owed : goal.returns-in-None-clause-owed
returns-in-None-clause-owed c =
    λ name target. NoLabel c.requires.sound (sym c.in-None.ensures)
    (ap (refused name) c.range_reason.ensures)

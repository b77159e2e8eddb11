use Rattle.drill.specs.Lines.{tally_text}
use Rattle.otio_tools.proofs.RunEnds.{written_here}
use Rattle.otio_tools.proofs.drill_command.write_tally_to.Goals as goal

pub returns-in-None-clause-told : goal.returns-in-None-clause-told
returns-in-None-clause-told g c =
    rw c.in-None.is (written_here (tally_text c.args.tally) c.write_told.result _ _
    c.write_told.ensures.told)

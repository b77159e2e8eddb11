use Rattle.otio_tools.proofs.RunEnds.{mixed_cause}
use Rattle.otio_tools.proofs.command.write_frames.Goals as goal

pub returns-clause-cause : goal.returns-clause-cause
returns-clause-cause g c =
    mixed_cause _ _ _ c.write_rows.result c.write_rows.ensures.cause c.write_rows.ensures.memory

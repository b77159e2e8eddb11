use Rattle.otio_tools.proofs.PlanLemmas.{unsound_frames}
use Rattle.otio_tools.proofs.frames_command.frames_to_write.Goals as goal

pub returns-in-Err-clause-owed : goal.returns-in-Err-clause-owed
returns-in-Err-clause-owed c = λ name.
    unsound_frames c.args.asked name c.args.timeline c.in-Err.fault c.unsound.result
    c.in-Err.ensures.fault c.unsound.ensures

use Rattle.otio_tools.proofs.PullPlans.{unsound_pull}
use Rattle.otio_tools.proofs.pull_command.pull_to_write.Goals as goal

pub returns-in-Err-clause-owed : goal.returns-in-Err-clause-owed
returns-in-Err-clause-owed c = λ name.
    unsound_pull c.args.handles name c.args.timeline c.in-Err.fault c.unsound.result
    c.in-Err.ensures.fault c.unsound.ensures

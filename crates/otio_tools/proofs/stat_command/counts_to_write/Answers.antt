use Rattle.otio_tools.proofs.PlanLemmas.{unsound_counts}
use Rattle.otio_tools.proofs.stat_command.counts_to_write.Goals as goal

pub returns-in-Err-clause-owed : goal.returns-in-Err-clause-owed
returns-in-Err-clause-owed c = λ name.
    unsound_counts name c.args.timeline c.in-Err.fault c.unsound.result c.in-Err.ensures.fault
    c.unsound.ensures

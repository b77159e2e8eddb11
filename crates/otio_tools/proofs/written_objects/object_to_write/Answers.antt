use Rattle.otio_tools.proofs.PlanLemmas.{without_form}
use Rattle.otio_tools.proofs.written_objects.object_to_write.Goals as goal

pub returns-in-Err-clause-owed : goal.returns-in-Err-clause-owed
returns-in-Err-clause-owed c = λ name.
    without_form c.args.older name c.args.object c.in-Err.fault c.not_written.result
    c.if-not-older.false c.in-Err.ensures.fault c.not_written.ensures

use Rattle.otio_tools.proofs.PlanLemmas.{old_object_is}
use Rattle.otio_tools.proofs.command.write_old_root.Goals as goal

pub returns-in-Ok-clause-told : goal.returns-in-Ok-clause-told
returns-in-Ok-clause-told g c = rw (old_object_is c.args.object.now) c.in-Ok.ensures.told

pub returns-in-Err-clause-told : goal.returns-in-Err-clause-told
returns-in-Err-clause-told g c = rw (old_object_is c.args.object.now) c.in-Err.ensures.told

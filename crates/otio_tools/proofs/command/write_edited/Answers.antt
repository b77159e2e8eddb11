use Rattle.otio_tools.proofs.PlanLemmas.{timeline_is}
use Rattle.otio_tools.proofs.command.write_edited.Goals as goal

pub returns-in-Ok-clause-told : goal.returns-in-Ok-clause-told
returns-in-Ok-clause-told g c = rw (timeline_is c.args.timeline.now) c.in-Ok.ensures.told

pub returns-in-Err-clause-told : goal.returns-in-Err-clause-told
returns-in-Err-clause-told g c = rw (timeline_is c.args.timeline.now) c.in-Err.ensures.told

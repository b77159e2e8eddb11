use Rattle.otio_model.specs.declared.objects.Object.{Timeline as ObjectOfTimeline}
use Rattle.object_law.proofs.Writables.{object_given}
use Rattle.edl_law.proofs.WritableTimelines.{timeline_writable}
use Rattle.edl_law.proofs.conformed_timelines_are_writable.Goals as goal

pub returns-clause-writable : goal.returns-clause-writable
returns-clause-writable c = timeline_writable

pub returns-clause-again : goal.returns-clause-again
returns-clause-again c list media t formed i =
    object_given (ObjectOfTimeline t) (timeline_writable list media t formed i)

use Rattle.edl_law.proofs.OneTimeline.{one_timeline}
use Rattle.edl_law.proofs.frame_laws.conformed_timelines_are_one.Goals as goal

pub returns : goal.returns
returns c = one_timeline

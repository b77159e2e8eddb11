use Rattle.edl_law.proofs.MadeTimelines.{timeline-is_there}
use Rattle.edl_law.proofs.frame_laws.conformed_timelines_are_there.Goals as goal

pub returns : goal.returns
returns c = λ list media formed in_range. timeline-is_there list media in_range formed

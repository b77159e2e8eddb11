use Rattle.edl_law.proofs.CalmTracks.{timeline_calm}
use Rattle.edl_law.proofs.frame_laws.conformed_timelines_are_calm.Goals as goal

pub returns : goal.returns
returns c = timeline_calm

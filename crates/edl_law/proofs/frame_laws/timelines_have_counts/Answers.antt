use Rattle.edl_law.proofs.ItemCounts.{timeline_count}
use Rattle.edl_law.proofs.frame_laws.timelines_have_counts.Goals as goal

pub returns : goal.returns
returns c = timeline_count

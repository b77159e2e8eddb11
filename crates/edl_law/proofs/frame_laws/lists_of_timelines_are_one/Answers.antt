use Rattle.edl_law.proofs.OneList.{one_list}
use Rattle.edl_law.proofs.frame_laws.lists_of_timelines_are_one.Goals as goal

pub returns : goal.returns
returns c = one_list

use Rattle.edl_law.proofs.MadeLists.{list-is_there}
use Rattle.edl_law.proofs.frame_laws.lists_are_there.Goals as goal

pub returns : goal.returns
returns c = list-is_there

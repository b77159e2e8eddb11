use Rattle.edl_law.proofs.WorkedLists.{worked, some_24}
use Rattle.edl_law.proofs.frame_laws.lists_are_worked.Goals as goal

pub returns : goal.returns
returns c = record { lists = worked; rate = some_24 }

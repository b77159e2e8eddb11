use Rattle.edl_law.proofs.ListDays.{list_is_fine}
use Rattle.edl_law.proofs.frame_laws.lists_are_fine.Goals as goal

pub returns : goal.returns
returns c = list_is_fine

use Rattle.edl_law.proofs.FewItems.{few_items}
use Rattle.edl_law.proofs.frame_laws.narrow_lists_have_few_items.Goals as goal

pub returns : goal.returns
returns c = few_items

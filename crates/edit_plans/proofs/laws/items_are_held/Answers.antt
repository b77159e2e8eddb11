use Rattle.edit_plans.proofs.Beside.{held-between}
use Rattle.edit_plans.proofs.laws.items_are_held.Goals as goal

pub returns : goal.returns
returns c = held-between

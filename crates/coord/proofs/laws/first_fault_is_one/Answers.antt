use Rattle.coord.proofs.Order.{one_first}
use Rattle.coord.proofs.laws.first_fault_is_one.Goals as goal

pub returns : goal.returns
returns c = one_first

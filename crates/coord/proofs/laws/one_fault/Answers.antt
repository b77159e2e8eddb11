use Rattle.coord.proofs.OneFault.{same_fault}
use Rattle.coord.proofs.laws.one_fault.Goals as goal

pub returns : goal.returns
returns c = same_fault

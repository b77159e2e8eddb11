use Rattle.edl_law.proofs.OneFault.{one_fault, no_fault}
use Rattle.edl_law.proofs.frame_laws.conform_faults_are_one.Goals as goal

pub returns : goal.returns
returns c = record { one = one_fault; none = no_fault }

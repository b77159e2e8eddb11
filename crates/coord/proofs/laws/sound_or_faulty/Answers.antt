use Rattle.coord.proofs.OneFault.{no_fault_of}
use Rattle.coord.proofs.laws.sound_or_faulty.Goals as goal

pub returns : goal.returns
returns c = no_fault_of

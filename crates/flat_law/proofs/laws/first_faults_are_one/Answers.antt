use Rattle.flat_law.proofs.Firsts.{first_flat, first_window, first_join}
use Rattle.flat_law.proofs.laws.first_faults_are_one.Goals as goal

pub returns : goal.returns
returns c = record { flatten = first_flat; window = first_window; join = first_join }

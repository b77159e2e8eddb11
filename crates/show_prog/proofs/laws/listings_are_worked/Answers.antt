use Rattle.show_prog.proofs.WorkedLemmas.{listings-are_worked}
use Rattle.show_prog.proofs.laws.listings_are_worked.Goals as goal

pub returns : goal.returns
returns c = listings-are_worked

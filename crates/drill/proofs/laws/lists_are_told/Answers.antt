use Rattle.drill.proofs.ToldLists.{told-is_there}
use Rattle.drill.proofs.laws.lists_are_told.Goals as goal

pub returns : goal.returns
returns c = told-is_there

use Rattle.coord.proofs.Clocks.{clock, worked}
use Rattle.coord.proofs.laws.items_are_worked.Goals as goal

pub returns : goal.returns
returns c = record { rows = worked; clock = clock }

use Rattle.coord.proofs.Divisors.{weight_scaled}
use Rattle.coord.proofs.laws.weights_are_lowest.Goals as goal

pub returns : goal.returns
returns c = weight_scaled

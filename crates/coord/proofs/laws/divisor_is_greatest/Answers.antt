use Rattle.coord.proofs.Divisors.{divisor_greatest}
use Rattle.coord.proofs.laws.divisor_is_greatest.Goals as goal

pub returns : goal.returns
returns c = divisor_greatest

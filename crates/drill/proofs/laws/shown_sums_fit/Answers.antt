use Rattle.drill.proofs.SmallSums.{shown_fit}
use Rattle.drill.proofs.laws.shown_sums_fit.Goals as goal

pub returns : goal.returns
returns c = shown_fit

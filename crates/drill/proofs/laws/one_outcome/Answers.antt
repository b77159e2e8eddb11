use Rattle.drill.proofs.OneTally.{one_drill_state, one_tally}
use Rattle.drill.proofs.laws.one_outcome.Goals as goal

pub returns : goal.returns
returns c = record { tally = one_tally; state = one_drill_state }

use Rattle.drill.proofs.OneTally.{back_at_start, one_back}
use Rattle.drill.proofs.laws.undone_is_start.Goals as goal

pub returns : goal.returns
returns c = record { start = back_at_start; back = one_back }

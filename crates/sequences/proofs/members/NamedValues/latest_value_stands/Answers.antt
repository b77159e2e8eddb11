use Rattle.sequences.proofs.LatestLemmas.{value_of-merged}
use Rattle.sequences.proofs.members.NamedValues.latest_value_stands.Goals as goal

pub returns : goal.returns
returns g c = λ pairs name. value_of-merged name pairs

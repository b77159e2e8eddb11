use Rattle.coord.proofs.SightLemmas.{seen_lengths}
use Rattle.coord.proofs.laws.lengths_are_seen.Goals as goal

pub returns : goal.returns
returns c = seen_lengths

use Rattle.sequences.proofs.PairLemmas.{value_of-place}
use Rattle.sequences.proofs.members.NamedValues.get.Goals as goal

pub returns : goal.returns
returns g c = let at = value_of-place c.args.name.now c.args.self.now in cc

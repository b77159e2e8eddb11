use Rattle.sequences.proofs.PairLemmas.{AreDistinct-same}
use Rattle.sequences.proofs.members.NamedValues.of_pairs.Goals as goal

pub invariant_of-result : goal.invariant_of-result
invariant_of-result g c = AreDistinct-same c.args.pairs.items c.shrink_to_fit.new.self.items (rw c.shrink_to_fit.ensures.items c.in_ok-pairs.ensures)

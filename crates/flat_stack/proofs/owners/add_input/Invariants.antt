-- Of the input so many tracks are kept.
use Rattle.flat_stack.proofs.OwnerLemmas.{AreOwned}
use Rattle.flat_stack.proofs.owners.add_input.Given as goal

abbrev pub invariant-seats : goal.invariant-seats
invariant-seats l = AreOwned l.owners l.parts l.at l.index

-- Half of the root children are fewer.
use Rattle.flat_stack.proofs.stretches.+stretches_in.Given as goal

abbrev pub decreases-stretches_in : goal.decreases-stretches_in
decreases-stretches_in a = a.among.count

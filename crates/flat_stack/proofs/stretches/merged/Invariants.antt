-- So far both lists are put together.
use Rattle.std.proofs.Common.{◌+◌, ◌-◌, length}
use Rattle.flat_stack.proofs.RunLemmas.{IsSoFar}
use Rattle.flat_stack.proofs.stretches.merged.Given as goal

abbrev pub invariant-stretches : goal.invariant-stretches
invariant-stretches l = IsSoFar l.upper l.lower l.high l.low l.all.items

abbrev pub decreases-stretches : goal.decreases-stretches
decreases-stretches l = (length l.upper - l.high) + (length l.lower - l.low)

-- What is kept of the inputs so far.
use Rattle.tick_time.specs.Rates.{frame}
use Rattle.flat_stack.proofs.JoinLemmas.{AreKept}
use Rattle.flat_stack.proofs.joining.parts_of.Given as goal

abbrev pub invariant-inputs : goal.invariant-inputs
invariant-inputs l = AreKept (frame l.rate.num l.rate.den) l.inputs l.parts.items l.index

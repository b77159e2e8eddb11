-- Nothing is wrong with the inputs so far.
use Rattle.std.proofs.Common.{true}
use Rattle.flat_stack.specs.Blocking.{FreeTo}
use Rattle.flat_stack.proofs.faults.first_fault.Given as goal

abbrev pub invariant-inputs : goal.invariant-inputs
invariant-inputs l = FreeTo true l.inputs l.index

use Rattle.flat_stack.proofs.OneOutcome.{one_result, never_both, one_fault}
use Rattle.flat_stack.proofs.laws.one_outcome.Goals as goal

pub returns : goal.returns
returns c = record { result = one_result; never = never_both; fault = one_fault }

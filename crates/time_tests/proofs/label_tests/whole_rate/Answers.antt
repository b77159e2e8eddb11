-- A whole number over 1 is in lowest terms.
use Rattle.smpte_tc.proofs.Coprime.{divides_one}
use Rattle.time_tests.proofs.label_tests.whole_rate.Goals as goal

pub invariant_of-result-clause-lowest : goal.invariant_of-result-clause-lowest
invariant_of-result-clause-lowest c = λ k _ h. divides_one k h

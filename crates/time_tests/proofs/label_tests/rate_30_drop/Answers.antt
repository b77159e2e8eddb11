-- The fraction is in lowest terms, and a rate.
use Rattle.std.proofs.Common.{rules, refl}
use Rattle.tick_time.specs.Rates.{is_rate}
use Rattle.smpte_tc.proofs.Coprime.{coprime}
use Rattle.time_tests.proofs.label_tests.rate_30_drop.Goals as goal

pub invariant_of-result-clause-lowest : goal.invariant_of-result-clause-lowest
invariant_of-result-clause-lowest c = λ k p q. coprime 30000 1001 367 10999 k refl p q

pub invariant_of-result-clause-given : goal.invariant_of-result-clause-given
unfolding is_rate
invariant_of-result-clause-given c = search rules

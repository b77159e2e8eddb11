use Rattle.tick_time.specs.FixedRates.{given_finest, lowest_whole}
use Rattle.tick_time.proofs.fixed_rates.finest_rate.Goals as goal

pub invariant_of-result-clause-lowest : goal.invariant_of-result-clause-lowest
invariant_of-result-clause-lowest c = lowest_whole 705600000000

pub invariant_of-result-clause-given : goal.invariant_of-result-clause-given
invariant_of-result-clause-given c = given_finest

use Rattle.tick_time.proofs.LowestTerms.{relative_profile}
use Rattle.tick_time.proofs.rates.relative_rate.Goals as goal

pub make_rate-requires-clause-lowest : goal.make_rate-requires-clause-lowest
make_rate-requires-clause-lowest c = (relative_profile c.args.count c.requires).lowest

pub make_rate-requires-clause-given : goal.make_rate-requires-clause-given
make_rate-requires-clause-given c = (relative_profile c.args.count c.requires).given

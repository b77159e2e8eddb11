use Rattle.tick_time.proofs.RateWordLemmas.{rate_once}
use Rattle.tick_time.proofs.laws.one_rate.Goals as goal

pub returns : goal.returns
returns c = rate_once

use Rattle.tick_time.proofs.NearestEven.{half_even_is_nearest, from_millionths_is_half_even}
use Rattle.tick_time.proofs.laws.rounds_to_nearest.Goals as goal

pub returns-clause-fraction : goal.returns-clause-fraction
returns-clause-fraction c = half_even_is_nearest

pub returns-clause-millionths : goal.returns-clause-millionths
returns-clause-millionths c = from_millionths_is_half_even

use Rattle.tick_time.proofs.NearestEven.{half_even_is_nearest}
use Rattle.edl_law.proofs.speeds_are_nearest.Goals as goal

pub returns : goal.returns
returns c = half_even_is_nearest

use Rattle.edl_list.proofs.DayLemmas.{count_fits, side_slow}
use Rattle.edl_list.proofs.laws.side_speeds.Goals as goal

pub returns : goal.returns
returns c = record { counts = count_fits; speeds = side_slow }

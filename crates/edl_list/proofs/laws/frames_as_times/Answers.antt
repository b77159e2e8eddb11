use Rattle.edl_list.proofs.DayLemmas.{frames_timed}
use Rattle.edl_list.proofs.laws.frames_as_times.Goals as goal

pub returns : goal.returns
returns c = frames_timed

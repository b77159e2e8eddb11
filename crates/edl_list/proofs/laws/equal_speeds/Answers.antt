use Rattle.edl_list.proofs.SpeedLemmas.{equal_tenths}
use Rattle.edl_list.proofs.laws.equal_speeds.Goals as goal

pub returns : goal.returns
returns c = equal_tenths

use Rattle.edl_law.proofs.OneReason.{one_reason, no_reason}
use Rattle.edl_law.proofs.frame_laws.reasons_are_one.Goals as goal

pub returns : goal.returns
returns c = record { one = one_reason; none = no_reason }

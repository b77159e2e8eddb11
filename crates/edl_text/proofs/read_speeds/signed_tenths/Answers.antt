use Rattle.edl_text.proofs.SpeedParts.{minus_none, plain_none}
use Rattle.edl_text.proofs.read_speeds.signed_tenths.Goals as goal

pub returns-in_err-tenths_of-in-Some : goal.returns-in_err-tenths_of-in-Some
returns-in_err-tenths_of-in-Some c = rw c.from_residual.ensures (minus_none _ _ c.in-Some.ensures c.in_err-tenths_of-in-Some.ensures)

pub returns-in_err-tenths_of-in-None : goal.returns-in_err-tenths_of-in-None
returns-in_err-tenths_of-in-None c = rw c.from_residual-in_err-tenths_of-in-None.ensures (plain_none _ c.in-None.ensures c.in_err-tenths_of-in-None.ensures)

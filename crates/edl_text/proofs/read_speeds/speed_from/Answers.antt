use Rattle.edl_text.proofs.SpeedParts.{no_speed_text}
use Rattle.edl_text.proofs.read_speeds.speed_from.Goals as goal

pub returns-in_err-reverse : goal.returns-in_err-reverse
returns-in_err-reverse c = rw c.from_residual-in_err-reverse.ensures (no_speed_text _ _ _ _ c.in_err-reverse.ensures)

use Rattle.edl_text.proofs.SpeedParts.{no_whole, no_tenth}
use Rattle.edl_text.proofs.read_speeds.tenths_of.Goals as goal

pub returns-in_err-whole : goal.returns-in_err-whole
returns-in_err-whole c = rw c.from_residual-in_err-whole.ensures (no_whole _ _ c.in_ok-point.point c.in_ok-point.ensures c.before-2.ensures c.in_err-whole.ensures.number)

pub returns-in_err-tenth : goal.returns-in_err-tenth
returns-in_err-tenth c = rw c.from_residual-in_err-tenth.ensures (no_tenth _ _ c.in_ok-point.point c.in_ok-point.ensures c.after.ensures c.in_err-tenth.ensures.number)

use Rattle.std.proofs.Common.{sym, ◌∙◌}
use Rattle.edl_text.proofs.open_event.Pending.with_speed.Goals as goal

pub returns-then-is_reel : goal.returns-then-is_reel
returns-then-is_reel c = rw (sym c.is_reel.ensures ∙ c.if-is_reel.true) c.with_incoming_speed.ensures

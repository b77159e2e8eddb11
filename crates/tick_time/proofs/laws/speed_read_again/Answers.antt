use Rattle.std.proofs.Common.{◌∙◌}
use Rattle.tick_time.proofs.RereadLemmas.{speed_again}
use Rattle.tick_time.proofs.laws.speed_read_again.Goals as goal

pub returns-in-Ok-clause-ok : goal.returns-in-Ok-clause-ok
returns-in-Ok-clause-ok c =
    (speed_again c.of.result _ _ _ _ _ _ _ (c.as_bytes.ensures.value ∙ c.as_str.ensures.value) c.text-text.ensures.range c.text-text.ensures.text c.in-Ok.ensures.value c.of.ensures.speed c.of.ensures.fault).ok

pub returns-in-Ok-clause-speed : goal.returns-in-Ok-clause-speed
returns-in-Ok-clause-speed c =
    (speed_again c.of.result _ _ _ _ _ _ _ (c.as_bytes.ensures.value ∙ c.as_str.ensures.value) c.text-text.ensures.range c.text-text.ensures.text c.in-Ok.ensures.value c.of.ensures.speed c.of.ensures.fault).speed_is

use Rattle.std.proofs.Common.{◌∙◌}
use Rattle.tick_time.specs.Times.{IsInRange}
use Rattle.tick_time.proofs.RereadLemmas.{time_again}
use Rattle.tick_time.proofs.laws.time_read_again.Goals as goal

pub returns-in-Ok-clause-ok : goal.returns-in-Ok-clause-ok
returns-in-Ok-clause-ok c =
    let inside : IsInRange c.args.time.now.ticks = record { low = c.args.time.now.low; high = c.args.time.now.high } in
    (time_again c.of.result _ _ _ _ _ _ _ _ (c.as_bytes.ensures.value ∙ c.as_str.ensures.value) inside c.value_text-text.ensures c.in-Ok.ensures.value c.of.ensures.time c.of.ensures.fault).ok

pub returns-in-Ok-clause-ticks : goal.returns-in-Ok-clause-ticks
returns-in-Ok-clause-ticks c =
    let inside : IsInRange c.args.time.now.ticks = record { low = c.args.time.now.low; high = c.args.time.now.high } in
    (time_again c.of.result _ _ _ _ _ _ _ _ (c.as_bytes.ensures.value ∙ c.as_str.ensures.value) inside c.value_text-text.ensures c.in-Ok.ensures.value c.of.ensures.time c.of.ensures.fault).ticks_is

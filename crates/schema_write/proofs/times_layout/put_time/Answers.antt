use Rattle.std.proofs.Common.{[], ◌∷◌}
use Rattle.dev_io.proofs.BufferLemmas.{puts_then}
use Rattle.json_value.specs.declared.Json.{Num}
use Rattle.json_text.specs.Levels.{deep}
use Rattle.schema_rows.specs.declared.schemas.Schema.TheVariants as S
use Rattle.schema_write.specs.Texts.{rate_text, value_text}
use Rattle.schema_write.proofs.ObjectLines.{bare_put}
use Rattle.schema_write.proofs.times_layout.put_time.Goals as goal

pub returns : goal.returns
returns g c = bare_put (deep c.args.level.now) _ S.RationalTime
    (Num (rate_text c.args.time.rate) ∷ Num (value_text c.args.time) ∷ []) c.inside-inner.ensures
    (puts_then c.put_head.ensures (puts_then c.put_rate_row.ensures
    (puts_then c.put_value_row.ensures c.put_end.ensures)))

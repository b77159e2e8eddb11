use Rattle.std.proofs.Common.{[], ◌∷◌}
use Rattle.dev_io.proofs.BufferLemmas.{puts_then}
use Rattle.json_text.specs.Levels.{deep}
use Rattle.schema_rows.specs.declared.schemas.Schema.TheVariants as S
use Rattle.schema_write.specs.Objects.{time_json}
use Rattle.schema_write.proofs.ObjectLines.{bare_put}
use Rattle.schema_write.proofs.times_layout.put_range.Goals as goal

pub returns : goal.returns
returns g c = bare_put (deep c.args.level.now) _ S.TimeRange
    (time_json c.args.span.len ∷ time_json c.args.span.start ∷ []) c.inside-inner.ensures
    (puts_then c.put_head.ensures (puts_then (puts_then c.put_row_name.ensures c.put_time.ensures)
    (puts_then (puts_then c.put_row_name-2.ensures c.put_time-2.ensures) c.put_end.ensures)))

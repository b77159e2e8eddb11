use Rattle.std.proofs.Common.{[], ◌∷◌}
use Rattle.dev_io.proofs.BufferLemmas.{puts_then}
use Rattle.json_value.specs.declared.Json.{Num, Str, Map}
use Rattle.json_text.specs.Levels.{deep}
use Rattle.schema_rows.specs.declared.schemas.Schema.TheVariants as S
use Rattle.schema_write.specs.Texts.{decimal_text}
use Rattle.schema_write.proofs.ObjectLines.{object_put}
use Rattle.schema_write.proofs.effects_layout.put_warp.Goals as goal

pub returns : goal.returns
returns g c = object_put (deep c.args.level.now) _ S.Warp
    (Map c.args.warp.now.metadata ∷ Str c.args.warp.now.name ∷ Str c.args.warp.now.effect_name
    ∷ Num (decimal_text c.args.warp.now.time_scalar) ∷ []) c.args.warp.now.rest
    c.inside-inner.ensures
    (puts_then c.put_head.ensures (puts_then c.put_object_row.ensures
    (puts_then c.put_text_row.ensures (puts_then c.put_text_row-2.ensures
    (puts_then c.put_speed_row.ensures (puts_then c.put_others.ensures c.put_end.ensures))))))

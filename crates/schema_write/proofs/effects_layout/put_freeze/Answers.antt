use Rattle.std.proofs.Common.{[], ◌∷◌, codes}
use Rattle.dev_io.proofs.BufferLemmas.{puts_then}
use Rattle.json_value.specs.declared.Json.{Num, Str, Map}
use Rattle.json_text.specs.Levels.{deep}
use Rattle.schema_rows.specs.declared.schemas.Schema.TheVariants as S
use Rattle.schema_write.proofs.ObjectLines.{object_put}
use Rattle.schema_write.proofs.effects_layout.put_freeze.Goals as goal

pub returns : goal.returns
returns g c = object_put (deep c.args.level.now) _ S.Freeze
    (Map c.args.freeze.now.metadata ∷ Str c.args.freeze.now.name ∷ Str c.args.freeze.now.effect_name
    ∷ Num (codes "0.0") ∷ []) c.args.freeze.now.rest c.inside-inner.ensures
    (puts_then c.put_head.ensures (puts_then c.put_object_row.ensures
    (puts_then c.put_text_row.ensures (puts_then c.put_text_row-2.ensures
    (puts_then c.put_numeral_row.ensures (puts_then c.put_others.ensures c.put_end.ensures))))))

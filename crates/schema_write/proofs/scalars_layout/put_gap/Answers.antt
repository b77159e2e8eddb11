use Rattle.std.proofs.Common.{[], ◌∷◌}
use Rattle.dev_io.proofs.BufferLemmas.{puts_then}
use Rattle.json_value.specs.declared.Json.{Str, Bool as JsonOfBool, Map}
use Rattle.json_text.specs.Levels.{deep}
use Rattle.schema_rows.specs.declared.schemas.Schema.TheVariants as S
use Rattle.schema_write.specs.Objects.{span_json, effects_json, markers_by}
use Rattle.schema_write.specs.Styles.{style_of}
use Rattle.schema_write.proofs.ObjectLines.{object_put}
use Rattle.schema_write.proofs.scalars_layout.put_gap.Goals as goal

pub returns : goal.returns
returns g c = object_put (deep c.args.level.now) _ S.Gap
    (Map c.args.gap.now.metadata ∷ Str c.args.gap.now.name ∷ span_json c.args.gap.now.source_range
    ∷ effects_json c.args.gap.now.effects ∷ markers_by (style_of c.args.family).mark c.args.gap.now.markers
    ∷ JsonOfBool c.args.gap.now.enabled ∷ []) c.args.gap.now.rest c.inside-inner.ensures
    (puts_then c.put_head.ensures (puts_then (rw c.get.ensures at c.put_object_row.ensures)
    (puts_then c.put_text_row.ensures (puts_then c.put_span_row.ensures
    (puts_then c.put_effects_row.ensures (puts_then c.put_markers_row.ensures
    (puts_then c.put_flag_row.ensures (puts_then c.put_others.ensures c.put_end.ensures))))))))

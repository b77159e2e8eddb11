use Rattle.std.proofs.Common.{[], ◌∷◌}
use Rattle.dev_io.proofs.BufferLemmas.{puts_then}
use Rattle.json_value.specs.declared.Json.{Str, Bool as JsonOfBool, Map}
use Rattle.json_text.specs.Levels.{deep}
use Rattle.schema_rows.specs.declared.schemas.Schema.TheVariants as S
use Rattle.schema_write.specs.Objects.{span_json, effects_json, markers_json, media_json}
use Rattle.schema_write.proofs.ObjectLines.{object_put}
use Rattle.schema_write.proofs.scalars_layout.put_clip.Goals as goal

pub returns : goal.returns
returns g c = object_put (deep c.args.level.now) _ S.Clip
    (Map c.args.clip.now.metadata ∷ Str c.args.clip.now.name
    ∷ span_json c.args.clip.now.source_range ∷ effects_json c.args.clip.now.effects
    ∷ markers_json c.args.clip.now.markers ∷ JsonOfBool c.args.clip.now.enabled
    ∷ media_json c.args.clip.now.media_references ∷ Str c.args.clip.now.active_media_reference_key
    ∷ []) c.args.clip.now.rest c.inside-inner.ensures
    (puts_then c.put_head.ensures (puts_then (rw c.get.ensures at c.put_object_row.ensures)
    (puts_then c.put_text_row.ensures (puts_then c.put_span_row.ensures
    (puts_then c.put_effects_row.ensures (puts_then c.put_markers_row.ensures
    (puts_then c.put_flag_row.ensures (puts_then c.put_media_row.ensures
    (puts_then c.put_text_row-2.ensures (puts_then c.put_others.ensures c.put_end.ensures))))))))))

use Rattle.std.proofs.Common.{[], ◌∷◌}
use Rattle.dev_io.proofs.BufferLemmas.{puts_then}
use Rattle.json_value.specs.declared.Json.{Str, Map}
use Rattle.json_text.specs.Levels.{deep}
use Rattle.schema_rows.specs.declared.schemas.Schema.TheVariants as S
use Rattle.schema_write.specs.Objects.{span_json}
use Rattle.schema_write.proofs.ObjectLines.{object_put}
use Rattle.schema_write.proofs.media_layout.put_images.Goals as goal

pub returns : goal.returns
returns g c = object_put (deep c.args.level.now) _ S.Images
    (Map c.args.images.now.metadata ∷ Str c.args.images.now.name
    ∷ span_json c.args.images.now.available_range ∷ Str c.args.images.now.target_url_base
    ∷ Str c.args.images.now.name_prefix ∷ Str c.args.images.now.name_suffix ∷ [])
    c.args.images.now.rest c.inside-inner.ensures
    (puts_then c.put_head.ensures (puts_then c.put_object_row.ensures
    (puts_then c.put_text_row.ensures (puts_then c.put_span_row.ensures
    (puts_then c.put_text_row-2.ensures (puts_then c.put_text_row-3.ensures
    (puts_then c.put_text_row-4.ensures (puts_then c.put_others.ensures c.put_end.ensures))))))))

use Rattle.std.proofs.Common.{[], ◌∷◌}
use Rattle.dev_io.proofs.BufferLemmas.{puts_then}
use Rattle.json_value.specs.declared.Json.{Str, Map}
use Rattle.json_text.specs.Levels.{deep}
use Rattle.schema_rows.specs.declared.schemas.Schema.TheVariants as S
use Rattle.schema_rows.specs.Schemas.{rows_of}
use Rattle.schema_rows.specs.Families.{others}
use Rattle.schema_write.specs.Objects.{span_json}
use Rattle.schema_write.proofs.ObjectLines.{object_put}
use Rattle.schema_write.proofs.markers_layout.put_old_mark.Goals as goal

pub returns : goal.returns
returns g c = object_put (deep c.args.level.now) _ S.FirstMarker
    (Map c.args.mark.now.metadata ∷ Str c.args.mark.now.name
    ∷ span_json c.args.mark.now.marked_range ∷ []) (others (rows_of S.Marker) c.args.mark.now.rest)
    c.inside-inner.ensures
    (puts_then c.put_head.ensures (puts_then c.put_object_row.ensures
    (puts_then c.put_text_row.ensures (puts_then c.put_span_row.ensures
    (puts_then c.put_old_others.ensures c.put_end.ensures)))))

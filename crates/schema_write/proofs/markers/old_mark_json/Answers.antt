use Rattle.std.proofs.Common.{[], ◌∷◌}
use Rattle.json_value.specs.declared.Json.{Str, Map}
use Rattle.schema_rows.specs.declared.schemas.Schema.TheVariants as S
use Rattle.schema_rows.specs.Schemas.{rows_of}
use Rattle.schema_rows.specs.Families.{others}
use Rattle.schema_write.specs.Objects.{span_json}
use Rattle.schema_write.proofs.Values.{added, written_as}
use Rattle.schema_write.proofs.markers.old_mark_json.Goals as goal

pub returns : goal.returns
returns c =
    let mark = c.args.mark.now in
    let values = added c.span_json.result _ c.in_ok-add.ensures c.span_json.ensures
    c.in_ok-values.ensures in
    written_as c.written_old.result S.FirstMarker (others (rows_of S.Marker) mark.rest)
    c.add.new.values.items
    (Map mark.metadata ∷ Str mark.name ∷ span_json mark.marked_range ∷ []) values
    c.written_old.ensures

use Rattle.std.proofs.Common.{◌≡◌, [], ◌∷◌}
use Rattle.json_value.specs.declared.Json.{Str, Map}
use Rattle.schema_rows.specs.declared.schemas.Schema.TheVariants as S
use Rattle.schema_write.specs.Objects.{span_json}
use Rattle.schema_write.proofs.Values.{added, written_as}
use Rattle.schema_write.proofs.markers.mark_json.Goals as goal

pub returns : goal.returns
returns c =
    let values : c.add.new.values.items ≡ Map c.args.mark.now.metadata ∷ Str c.args.mark.now.name ∷ span_json c.args.mark.now.marked_range ∷ [] = added c.span_json.result _ c.in_ok-add.ensures c.span_json.ensures c.in_ok-values.ensures in
    written_as c.written.result S.Marker c.args.mark.now.rest c.add.new.values.items (Map c.args.mark.now.metadata ∷ Str c.args.mark.now.name ∷ span_json c.args.mark.now.marked_range ∷ []) values c.written.ensures

use Rattle.std.proofs.Common.{◌≡◌, [], ◌∷◌}
use Rattle.json_value.specs.declared.Json.{Str, Bool as JsonOfBool, Map}
use Rattle.schema_rows.specs.declared.schemas.Schema.TheVariants as S
use Rattle.schema_write.specs.Objects.{span_json, effects_json, markers_by}
use Rattle.schema_write.specs.Styles.{style_of}
use Rattle.schema_write.proofs.Values.{members_as, written_as}
use Rattle.schema_write.proofs.scalars.gap_json.Goals as goal

pub returns : goal.returns
returns c =
    let values : c.in_ok-values.values.items ≡ Map c.args.gap.now.metadata ∷ Str c.args.gap.now.name ∷ span_json c.args.gap.now.source_range ∷ effects_json c.args.gap.now.effects ∷ markers_by (style_of c.args.family).mark c.args.gap.now.markers ∷ JsonOfBool c.args.gap.now.enabled ∷ [] = (members_as c.in_ok-values.ensures c.get.ensures) in
    written_as c.written.result S.Gap c.args.gap.now.rest c.in_ok-values.values.items (Map c.args.gap.now.metadata ∷ Str c.args.gap.now.name ∷ span_json c.args.gap.now.source_range ∷ effects_json c.args.gap.now.effects ∷ markers_by (style_of c.args.family).mark c.args.gap.now.markers ∷ JsonOfBool c.args.gap.now.enabled ∷ []) values c.written.ensures

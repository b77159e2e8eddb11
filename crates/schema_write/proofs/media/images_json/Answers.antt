use Rattle.std.proofs.Common.{◌≡◌, [], ◌∷◌}
use Rattle.json_value.specs.declared.Json.{Str, Map}
use Rattle.schema_rows.specs.declared.schemas.Schema.TheVariants as S
use Rattle.schema_write.specs.Objects.{span_json}
use Rattle.schema_write.proofs.Values.{added, written_as}
use Rattle.schema_write.proofs.media.images_json.Goals as goal

pub returns : goal.returns
returns c =
    let values : c.add-4.new.values.items ≡ Map c.args.medium.now.metadata ∷ Str c.args.medium.now.name ∷ span_json c.args.medium.now.available_range ∷ Str c.args.medium.now.target_url_base ∷ Str c.args.medium.now.name_prefix ∷ Str c.args.medium.now.name_suffix ∷ [] = added c.string-3.result _ c.in_ok-add-4.ensures c.string-3.ensures (added c.string-2.result _ c.in_ok-add-3.ensures c.string-2.ensures (added c.string.result _ c.in_ok-add-2.ensures c.string.ensures (added c.span_json.result _ c.in_ok-add.ensures c.span_json.ensures c.in_ok-values.ensures))) in
    written_as c.written.result S.Images c.args.medium.now.rest c.add-4.new.values.items (Map c.args.medium.now.metadata ∷ Str c.args.medium.now.name ∷ span_json c.args.medium.now.available_range ∷ Str c.args.medium.now.target_url_base ∷ Str c.args.medium.now.name_prefix ∷ Str c.args.medium.now.name_suffix ∷ []) values c.written.ensures

use Rattle.std.proofs.Common.{◌≡◌, [], ◌∷◌}
use Rattle.json_value.specs.declared.Json.{Str, Map}
use Rattle.schema_rows.specs.declared.schemas.Schema.TheVariants as S
use Rattle.schema_write.specs.Objects.{offset_json}
use Rattle.schema_write.proofs.Values.{added, members_as, written_as}
use Rattle.schema_write.proofs.scalars.transition_json.Goals as goal

pub returns : goal.returns
returns c =
    let values : c.add-3.new.values.items ≡ Map c.args.transition.now.metadata ∷ Str c.args.transition.now.name ∷ Str c.args.transition.now.transition_type ∷ offset_json c.args.transition.now.in_offset ∷ offset_json c.args.transition.now.out_offset ∷ [] = added c.offset_json-2.result _ c.in_ok-add-3.ensures c.offset_json-2.ensures (added c.offset_json.result _ c.in_ok-add-2.ensures c.offset_json.ensures (added c.string.result _ c.in_ok-add.ensures c.string.ensures (members_as c.in_ok-values.ensures c.get.ensures))) in
    written_as c.written.result S.Transition c.args.transition.now.rest c.add-3.new.values.items (Map c.args.transition.now.metadata ∷ Str c.args.transition.now.name ∷ Str c.args.transition.now.transition_type ∷ offset_json c.args.transition.now.in_offset ∷ offset_json c.args.transition.now.out_offset ∷ []) values c.written.ensures

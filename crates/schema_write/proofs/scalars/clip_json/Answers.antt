use Rattle.std.proofs.Common.{◌≡◌, [], ◌∷◌}
use Rattle.json_value.specs.declared.Json.{Str, Bool as JsonOfBool, Map}
use Rattle.schema_rows.specs.declared.schemas.Schema.TheVariants as S
use Rattle.schema_write.specs.Objects.{span_json, effects_json, markers_json, media_json}
use Rattle.schema_write.proofs.Values.{added, members_as, written_as}
use Rattle.schema_write.proofs.scalars.clip_json.Goals as goal

pub returns : goal.returns
returns c =
    let values : c.add-2.new.values.items ≡ Map c.args.clip.now.metadata ∷ Str c.args.clip.now.name ∷ span_json c.args.clip.now.source_range ∷ effects_json c.args.clip.now.effects ∷ markers_json c.args.clip.now.markers ∷ JsonOfBool c.args.clip.now.enabled ∷ media_json c.args.clip.now.media_references ∷ Str c.args.clip.now.active_media_reference_key ∷ [] = added c.string.result _ c.in_ok-add-2.ensures c.string.ensures (added c.media_json.result _ c.in_ok-add.ensures c.media_json.ensures (members_as c.in_ok-values.ensures c.get.ensures)) in
    written_as c.written.result S.Clip c.args.clip.now.rest c.add-2.new.values.items (Map c.args.clip.now.metadata ∷ Str c.args.clip.now.name ∷ span_json c.args.clip.now.source_range ∷ effects_json c.args.clip.now.effects ∷ markers_json c.args.clip.now.markers ∷ JsonOfBool c.args.clip.now.enabled ∷ media_json c.args.clip.now.media_references ∷ Str c.args.clip.now.active_media_reference_key ∷ []) values c.written.ensures

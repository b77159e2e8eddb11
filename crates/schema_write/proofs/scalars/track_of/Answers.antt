use Rattle.std.proofs.Common.{◌≡◌, refl, [], ◌∷◌}
use Rattle.json_value.specs.declared.Json.{Str, Bool as JsonOfBool, List as JsonOfList, Map}
use Rattle.schema_rows.specs.declared.schemas.Schema.TheVariants as S
use Rattle.schema_write.specs.Objects.{span_json, effects_json, markers_by}
use Rattle.schema_write.specs.Styles.{style_of}
use Rattle.schema_write.proofs.Values.{grown, added, members_as, written_as}
use Rattle.schema_write.proofs.scalars.track_of.Goals as goal

pub returns : goal.returns
returns c =
    let values : c.add.new.values.items ≡ Map c.args.track.now.metadata ∷ Str c.args.track.now.name ∷ span_json c.args.track.now.source_range ∷ effects_json c.args.track.now.effects ∷ markers_by (style_of c.args.family).mark c.args.track.now.markers ∷ JsonOfBool c.args.track.now.enabled ∷ JsonOfList c.args.children ∷ Str c.args.track.now.kind ∷ [] = added c.string.result _ c.in_ok-add.ensures c.string.ensures (grown c.in_ok-push.ensures.items (members_as c.in_ok-values.ensures c.get.ensures) refl) in
    written_as c.written.result S.Track c.args.track.now.rest c.add.new.values.items (Map c.args.track.now.metadata ∷ Str c.args.track.now.name ∷ span_json c.args.track.now.source_range ∷ effects_json c.args.track.now.effects ∷ markers_by (style_of c.args.family).mark c.args.track.now.markers ∷ JsonOfBool c.args.track.now.enabled ∷ JsonOfList c.args.children ∷ Str c.args.track.now.kind ∷ []) values c.written.ensures

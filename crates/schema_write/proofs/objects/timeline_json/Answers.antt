use Rattle.std.proofs.Common.{◌≡◌, [], ◌∷◌}
use Rattle.json_value.specs.declared.Json.{Str, Map}
use Rattle.schema_rows.specs.declared.schemas.Schema.TheVariants as S
use Rattle.schema_write.specs.Objects.{offset_json, stack_by, children_in}
use Rattle.schema_write.specs.Styles.{style_of}
use Rattle.schema_write.proofs.Values.{added, written_as}
use Rattle.schema_write.proofs.objects.timeline_json.Goals as goal

pub returns : goal.returns
returns c =
    let values : c.add-2.new.values.items ≡ Map c.args.timeline.now.metadata ∷ Str c.args.timeline.now.name ∷ offset_json c.args.timeline.now.global_start_time ∷ stack_by (style_of c.args.family) (children_in (style_of c.args.family)) c.args.timeline.now.tracks ∷ [] = added c.stack_json.result _ c.in_ok-add-2.ensures c.stack_json.ensures (added c.offset_json.result _ c.in_ok-add.ensures c.offset_json.ensures c.in_ok-values.ensures) in
    written_as c.written.result S.Timeline c.args.timeline.now.rest c.add-2.new.values.items (Map c.args.timeline.now.metadata ∷ Str c.args.timeline.now.name ∷ offset_json c.args.timeline.now.global_start_time ∷ stack_by (style_of c.args.family) (children_in (style_of c.args.family)) c.args.timeline.now.tracks ∷ []) values c.written.ensures

use Rattle.std.proofs.Common.{[], ◌∷◌}
use Rattle.json_value.specs.declared.Json.{Str, Bool as JsonOfBool, Map}
use Rattle.schema_rows.specs.declared.schemas.Schema.TheVariants as S
use Rattle.schema_rows.specs.Schemas.{rows_of}
use Rattle.schema_rows.specs.Families.{others}
use Rattle.schema_write.specs.Objects.{span_json, effects_json, markers_by, old_mark_json, reference_json}
use Rattle.schema_write.proofs.Values.{added, members_as, written_as}
use Rattle.schema_write.proofs.scalars.old_clip_json.Goals as goal

pub returns : goal.returns
returns c =
    let clip = c.args.clip.now in
    let values = added c.reference_json.result _ c.in_ok-add.ensures c.reference_json.ensures
    (members_as c.in_ok-values.ensures c.get.ensures) in
    written_as c.written_old.result S.FirstClip (others (rows_of S.Clip) clip.rest)
    c.add.new.values.items
    (Map clip.metadata ∷ Str clip.name ∷ span_json clip.source_range ∷ effects_json clip.effects
    ∷ markers_by old_mark_json clip.markers ∷ JsonOfBool clip.enabled
    ∷ reference_json clip.media_references ∷ []) values c.written_old.ensures

use Rattle.std.proofs.Common.{[], ◌∷◌}
use Rattle.dev_io.proofs.BufferLemmas.{puts_then}
use Rattle.json_value.specs.declared.Json.{Str, Map}
use Rattle.json_text.specs.Levels.{deep}
use Rattle.schema_rows.specs.declared.schemas.Schema.TheVariants as S
use Rattle.schema_write.specs.Objects.{offset_json, stack_by, children_in}
use Rattle.schema_write.specs.Styles.{style_of}
use Rattle.schema_write.proofs.ObjectLines.{object_put}
use Rattle.schema_write.proofs.objects_layout.put_timeline.Goals as goal

pub returns : goal.returns
returns g c = object_put (deep c.args.level.now) _ S.Timeline
    (Map c.args.timeline.now.metadata ∷ Str c.args.timeline.now.name
    ∷ offset_json c.args.timeline.now.global_start_time
    ∷ stack_by (style_of c.args.family) (children_in (style_of c.args.family)) c.args.timeline.now.tracks ∷ []) c.args.timeline.now.rest
    c.inside-inner.ensures
    (puts_then c.put_head.ensures (puts_then c.put_object_row.ensures
    (puts_then c.put_text_row.ensures (puts_then c.put_offset_row.ensures (puts_then
    (puts_then c.put_row_name.ensures c.put_stack.ensures)
    (puts_then c.put_others.ensures c.put_end.ensures))))))

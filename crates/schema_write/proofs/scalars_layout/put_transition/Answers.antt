use Rattle.std.proofs.Common.{[], ◌∷◌}
use Rattle.dev_io.proofs.BufferLemmas.{puts_then}
use Rattle.json_value.specs.declared.Json.{Str, Map}
use Rattle.json_text.specs.Levels.{deep}
use Rattle.schema_rows.specs.declared.schemas.Schema.TheVariants as S
use Rattle.schema_write.specs.Objects.{offset_json}
use Rattle.schema_write.proofs.ObjectLines.{object_put}
use Rattle.schema_write.proofs.scalars_layout.put_transition.Goals as goal

pub returns : goal.returns
returns g c = object_put (deep c.args.level.now) _ S.Transition
    (Map c.args.transition.now.metadata ∷ Str c.args.transition.now.name
    ∷ Str c.args.transition.now.transition_type ∷ offset_json c.args.transition.now.in_offset
    ∷ offset_json c.args.transition.now.out_offset ∷ []) c.args.transition.now.rest
    c.inside-inner.ensures
    (puts_then c.put_head.ensures (puts_then (rw c.get.ensures at c.put_object_row.ensures)
    (puts_then c.put_text_row.ensures (puts_then c.put_text_row-2.ensures
    (puts_then c.put_offset_row.ensures (puts_then c.put_offset_row-2.ensures
    (puts_then c.put_others.ensures c.put_end.ensures)))))))

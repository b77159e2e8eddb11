use Rattle.std.proofs.Common.{◌≡◌, ◌<◌, [], ◌∷◌, length, map, refl, sym, ap, ◌∙◌, arith}
use Rattle.std.proofs.lemmas.Bool.Decides.{nat_tests}
use Rattle.dev_io.proofs.BufferLemmas.{puts_then, puts_as, puts_none}
use Rattle.dev_io.proofs.PartLemmas.{drop_past}
use Rattle.dev_io.proofs.Leaving.{leaves_all, leaves_then}
use Rattle.json_value.specs.declared.Json.{Str, Bool as JsonOfBool, List as JsonOfList, Map}
use Rattle.json_text.specs.Levels.{deep}
use Rattle.json_text.specs.Layout.{text_at, list_text}
use Rattle.json_text.proofs.Lines.{text_at-List, list_text-lines}
use Rattle.otio_model.specs.Counts.{count_of}
use Rattle.otio_model.specs.Falls.{child_counts}
use Rattle.otio_model.specs.Trees.{items_of}
use Rattle.schema_rows.specs.declared.schemas.Schema.TheVariants as S
use Rattle.schema_write.specs.Objects.{span_json, effects_json, markers_by, children_in, item_in}
use Rattle.schema_write.specs.Styles.{style_of}
use Rattle.schema_write.proofs.Trees.{children_are}
use Rattle.schema_write.proofs.ObjectLines.{object_put}
use Rattle.schema_write.proofs.ListLines.{children-next, none_listed, some_mapped}
use Rattle.schema_write.proofs.items_layout.+item.Goals as goal

pub put_stack-returns : goal.put_stack-returns
put_stack-returns g t c =
    let children = puts_as _ c.put_children.ensures
    (sym (text_at-List (children_in (style_of c.args.family) c.args.stack.now.children) _)) in
    object_put (deep c.args.level.now) _ S.Stack
    (Map c.args.stack.now.metadata ∷ Str c.args.stack.now.name
    ∷ span_json c.args.stack.now.source_range ∷ effects_json c.args.stack.now.effects
    ∷ markers_by (style_of c.args.family).mark c.args.stack.now.markers ∷ JsonOfBool c.args.stack.now.enabled
    ∷ JsonOfList (children_in (style_of c.args.family) c.args.stack.now.children) ∷ []) c.args.stack.now.rest
    c.inside-inner.ensures
    (puts_then c.put_head.ensures (puts_then (rw c.get.ensures at c.put_object_row.ensures)
    (puts_then c.put_text_row.ensures (puts_then c.put_span_row.ensures
    (puts_then c.put_effects_row.ensures (puts_then c.put_markers_row.ensures
    (puts_then c.put_flag_row.ensures (puts_then (puts_then c.put_row_name.ensures children)
    (puts_then c.put_others.ensures c.put_end.ensures)))))))))

pub put_track-returns : goal.put_track-returns
put_track-returns g t c =
    let children = puts_as _ c.put_children.ensures
    (sym (text_at-List (children_in (style_of c.args.family) c.args.track.now.children) _)) in
    object_put (deep c.args.level.now) _ S.Track
    (Map c.args.track.now.metadata ∷ Str c.args.track.now.name
    ∷ span_json c.args.track.now.source_range ∷ effects_json c.args.track.now.effects
    ∷ markers_by (style_of c.args.family).mark c.args.track.now.markers ∷ JsonOfBool c.args.track.now.enabled
    ∷ JsonOfList (children_in (style_of c.args.family) c.args.track.now.children) ∷ Str c.args.track.now.kind ∷ [])
    c.args.track.now.rest c.inside-inner.ensures
    (puts_then c.put_head.ensures (puts_then (rw c.get.ensures at c.put_object_row.ensures)
    (puts_then c.put_text_row.ensures (puts_then c.put_span_row.ensures
    (puts_then c.put_effects_row.ensures (puts_then c.put_markers_row.ensures
    (puts_then c.put_flag_row.ensures (puts_then (puts_then c.put_row_name.ensures children)
    (puts_then c.put_text_row-2.ensures (puts_then c.put_others.ensures c.put_end.ensures))))))))))

pub put_item-returns-in-Clip : goal.put_item-returns-in-Clip
put_item-returns-in-Clip g t c = puts_as _ c.put_clip_in.ensures
    (ap (λ x. text_at (item_in (style_of c.args.family) x) (deep c.args.level.now)) (sym c.in-Clip.is))

pub put_item-returns-in-Gap : goal.put_item-returns-in-Gap
put_item-returns-in-Gap g t c = puts_as _ c.put_gap.ensures
    (ap (λ x. text_at (item_in (style_of c.args.family) x) (deep c.args.level.now)) (sym c.in-Gap.is))

pub put_item-returns-in-Transition : goal.put_item-returns-in-Transition
put_item-returns-in-Transition g t c = puts_as _ c.put_transition.ensures
    (ap (λ x. text_at (item_in (style_of c.args.family) x) (deep c.args.level.now)) (sym c.in-Transition.is))

pub put_item-returns-in-Stack : goal.put_item-returns-in-Stack
put_item-returns-in-Stack g t c = puts_as _ c.put_stack.ensures
    (ap (λ x. text_at (item_in (style_of c.args.family) x) (deep c.args.level.now)) (sym c.in-Stack.is))

pub put_item-returns-in-Track : goal.put_item-returns-in-Track
put_item-returns-in-Track g t c = puts_as _ c.put_track.ensures
    (ap (λ x. text_at (item_in (style_of c.args.family) x) (deep c.args.level.now)) (sym c.in-Track.is))

pub put_children-returns-then-len-eq0 : goal.put_children-returns-then-len-eq0
put_children-returns-then-len-eq0 g t c =
    let items = items_of c.args.children.now in
    let n = deep c.args.level.now in
    let none : length items ≡ 0 = grind (arith, nat_tests, c.len.ensures) in
    let text = ap (list_text n) (children_are (style_of c.args.family) c.args.children.now)
    ∙ none_listed (item_in (style_of c.args.family)) n items none in
    puts_as _ c.put.ensures (sym text)

pub put_children-returns : goal.put_children-returns
put_children-returns g t c =
    let items = items_of c.args.children.now in
    let some : 0 < length items = grind (arith, nat_tests, c.len.ensures) in
    let is = children_are (style_of c.args.family) c.args.children.now in
    rw (
      is,
      list_text-lines (deep c.args.level.now) (map (item_in (style_of c.args.family)) items)
          (some_mapped (item_in (style_of c.args.family)) items some),
    )
    (puts_then (rw (is, c.inside.ensures) at c.put_child_lines.ensures)
    (puts_then c.put_line.ensures c.put-2.ensures))

pub put_child_lines-items-init : goal.put_child_lines-items-init
put_child_lines-items-init g t c = (91, refl, rw (← children_are (style_of c.args.family) c.args.list.now) (leaves_all _ _))

pub put_child_lines-items-preserved : goal.put_child_lines-items-preserved
put_child_lines-items-preserved g t c =
    let kept = c.items.invariant in
    let text = children-next (item_in (style_of c.args.family)) c.items.lead.now kept.0 (deep c.args.level.now)
    (items_of c.args.list.now) c.items.index c.child.result.now kept.1 c.child.ensures in
    (44, refl, leaves_then (leaves_then (rw text at kept.2) c.put_line.ensures) c.put_item.ensures)

pub put_child_lines-returns : goal.put_child_lines-returns
put_child_lines-returns g t c = c.items.invariant.2.ends _
    (rw (drop_past (items_of c.args.list.now) c.items.index
    (omega (arith, c.len-index-end.ensures))) (puts_none _))

pub put_child_lines-put_item-requires : goal.put_child_lines-put_item-requires
put_child_lines-put_item-requires g t c = λ κs outlives.
    let below = child_counts c.args.list.now c.items.index c.child.result.now c.child.ensures in
    (omega (arith, c.decreases, below), outlives)

pub put_item-put_stack-requires : goal.put_item-put_stack-requires
put_item-put_stack-requires g t c = λ κs outlives.
    let size = ap count_of c.in-Stack.is in (omega (arith, c.decreases, size), outlives)

pub put_item-put_track-requires : goal.put_item-put_track-requires
put_item-put_track-requires g t c = λ κs outlives.
    let size = ap count_of c.in-Track.is in (omega (arith, c.decreases, size), outlives)

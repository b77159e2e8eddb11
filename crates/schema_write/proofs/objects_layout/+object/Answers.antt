use Rattle.std.proofs.Common.{◌<◌, ◌∙◌, ◌∷◌, [], length, map, refl, sym, ap, arith}
use Rattle.dev_io.proofs.BufferLemmas.{puts_then, puts_as, puts_none}
use Rattle.json_text.specs.Levels.{deep}
use Rattle.json_text.specs.Layout.{text_at}
use Rattle.json_text.proofs.Lines.{text_at-List, list_text-lines}
use Rattle.std.proofs.lemmas.Bool.Decides.{nat_tests}
use Rattle.dev_io.proofs.PartLemmas.{drop_past}
use Rattle.dev_io.proofs.Leaving.{leaves_all, leaves_then}
use Rattle.json_value.specs.declared.Json.{Str, List as JsonOfList, Map}
use Rattle.otio_model.specs.declared.objects.Collection.{out-Collection}
use Rattle.schema_rows.specs.declared.schemas.Schema.TheVariants as S
use Rattle.schema_write.specs.Objects.{object_in}
use Rattle.schema_write.specs.Styles.{style_of}
use Rattle.schema_write.proofs.Trees.{object_in-Timeline, object_in-Collection, object_in-Item}
use Rattle.schema_write.proofs.ObjectLines.{object_put}
use Rattle.schema_write.proofs.ListLines.{items-next, some_mapped}
use Rattle.schema_write.proofs.objects_layout.+object.Goals as goal

pub put_root-returns-in-Timeline : goal.put_root-returns-in-Timeline
put_root-returns-in-Timeline g t c = puts_as _ c.put_timeline.ensures
    (ap (λ j. text_at j (deep c.args.level.now))
    (sym (object_in-Timeline (style_of c.args.family) c.in-Timeline.timeline) ∙ ap (object_in (style_of c.args.family)) (sym c.in-Timeline.is)))

pub put_root-returns-in-Collection : goal.put_root-returns-in-Collection
put_root-returns-in-Collection g t c = puts_as _ c.put_collection.ensures
    (ap (λ j. text_at j (deep c.args.level.now))
    (sym (object_in-Collection (style_of c.args.family) c.in-Collection.collection) ∙ ap (object_in (style_of c.args.family)) (sym c.in-Collection.is)))

pub put_root-returns-in-Item : goal.put_root-returns-in-Item
put_root-returns-in-Item g t c = puts_as _ c.put_item.ensures
    (ap (λ j. text_at j (deep c.args.level.now))
    (sym (object_in-Item (style_of c.args.family) c.in-Item.item) ∙ ap (object_in (style_of c.args.family)) (sym c.in-Item.is)))

pub put_collection-returns : goal.put_collection-returns
put_collection-returns g t c =
    let x = out-Collection c.args.collection.now in
    let children = puts_as _ (rw c.as_slice.ensures at c.put_objects.ensures)
    (sym (text_at-List (map (object_in (style_of c.args.family)) x.children) _)) in
    object_put (deep c.args.level.now) _ S.Collection
    (Map x.metadata ∷ Str x.name ∷ JsonOfList (map (object_in (style_of c.args.family)) x.children) ∷ []) x.rest
    c.inside-inner.ensures
    (puts_then c.put_head.ensures (puts_then c.put_object_row.ensures
    (puts_then c.put_text_row.ensures (puts_then (puts_then c.put_row_name.ensures children)
    (puts_then c.put_others.ensures c.put_end.ensures)))))

pub put_objects-returns : goal.put_objects-returns
put_objects-returns g t c =
    let some : 0 < length c.args.objects.now = grind (arith, nat_tests) in
    rw (list_text-lines (deep c.args.level.now) (map (object_in (style_of c.args.family)) c.args.objects.now)
    (some_mapped (object_in (style_of c.args.family)) c.args.objects.now some))
    (puts_then (rw c.inside.ensures at c.put_object_lines.ensures)
    (puts_then c.put_line.ensures c.put-2.ensures))

pub put_object_lines-loop-object-init : goal.put_object_lines-loop-object-init
put_object_lines-loop-object-init g t c = (91, refl, leaves_all _ _)

pub put_object_lines-loop-object-preserved : goal.put_object_lines-loop-object-preserved
put_object_lines-loop-object-preserved g t c =
    let kept = c.loop-object.invariant in
    let text = items-next (object_in (style_of c.args.family)) c.loop-object.lead.now kept.0 (deep c.args.level.now)
    c.args.list.now c.loop-object.object-index c.object-item.result kept.1 (omega arith) in (
      44,
      refl,
      leaves_then (leaves_then (rw (text, ← c.object-item.is) at kept.2)
          c.put_line.ensures) c.put_root.ensures,
    )

pub put_object_lines-returns : goal.put_object_lines-returns
put_object_lines-returns g t c = c.loop-object.invariant.2.ends _
    (rw (drop_past c.args.list.now c.loop-object.object-index (omega arith)) (puts_none _))

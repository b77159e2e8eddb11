use Rattle.std.proofs.Common.{◌∙◌, ap, sym, arith}
use Rattle.std.proofs.lemmas.Result.{IfOk-weaker}
use Rattle.otio_model.specs.declared.compositions.ItemOf.TheVariants.{Clip, Gap, Transition}
use Rattle.otio_model.specs.Counts.{count_of}
use Rattle.otio_model.specs.Falls.{child_counts}
use Rattle.otio_model.specs.Trees.{items_of}
use Rattle.schema_write.specs.Objects.{item_in}
use Rattle.schema_write.specs.Styles.{style_of}
use Rattle.schema_write.proofs.Trees.{value_pushed, children_done, item_as, track_as}
use Rattle.schema_write.proofs.items.+item.Goals as goal

pub children_json-item_json-requires : goal.children_json-item_json-requires
children_json-item_json-requires t c =
    let below = child_counts c.args.children.now c.items.index c.child.result.now c.child.ensures in
    (omega (arith, c.decreases, below), tt)

pub item_json-children_json-requires : goal.item_json-children_json-requires
item_json-children_json-requires t c =
    let size = ap count_of c.in-Stack.is in
    (omega (arith, c.decreases, size), tt)

pub children_json-items-preserved : goal.children_json-items-preserved
children_json-items-preserved t c =
    value_pushed (item_in (style_of c.args.family)) (items_of c.args.children.now) c.items.index c.child.result.now c.items.values.items _ c.in_ok-item_json.field-0 c.in_ok-push.ensures.items c.child.ensures c.items.invariant
    c.in_ok-item_json.ensures

pub children_json-returns : goal.children_json-returns
children_json-returns t c =
    let all = children_done (style_of c.args.family) c.args.children.now c.items.index c.items.values.items (omega (arith, c.len-index-end.ensures)) c.items.invariant in
    IfOk-weaker c.of.result _ _ (λ made is. is ∙ all) c.of.ensures

pub item_json-returns-in-Clip : goal.item_json-returns-in-Clip
item_json-returns-in-Clip t c = item_as (style_of c.args.family) c.clip_in.result (Clip c.in-Clip.clip) c.args.item.now (sym c.in-Clip.is) c.clip_in.ensures

pub item_json-returns-in-Gap : goal.item_json-returns-in-Gap
item_json-returns-in-Gap t c = item_as (style_of c.args.family) c.gap_json.result (Gap c.in-Gap.gap) c.args.item.now (sym c.in-Gap.is) c.gap_json.ensures

pub item_json-returns-in-Transition : goal.item_json-returns-in-Transition
item_json-returns-in-Transition t c = item_as (style_of c.args.family) c.transition_json.result (Transition c.in-Transition.transition) c.args.item.now (sym c.in-Transition.is) c.transition_json.ensures

pub item_json-returns-in_ok-children-in-Track : goal.item_json-returns-in_ok-children-in-Track
item_json-returns-in_ok-children-in-Track t c =
    track_as (style_of c.args.family) c.track_of.result c.in-Track.track c.in_ok-children-in-Track.children c.args.item.now c.in_ok-children-in-Track.ensures c.in-Track.is c.track_of.ensures

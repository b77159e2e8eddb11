use Rattle.std.proofs.Common.{◌∙◌, ◌+◌, ap, min, sym, subst, pos, arith}
use Rattle.otio_model.specs.Trees.{items_of, listed}
use Rattle.otio_model.proofs.Views.{items-listed}
use Rattle.coord.proofs.Members.{child_few, got_below}
use Rattle.note_text.specs.Noted.{AreNotedChildren}
use Rattle.edl_notes.specs.Steps.{notes_at}
use Rattle.edl_notes.proofs.ColorSteps.{match_as}
use Rattle.edl_notes.proofs.WalkSteps.{all_timed, as_found, most_counted, walk_ends, walk_more}
use Rattle.edl_notes.proofs.events.noted_children.Goals as goal

pub event_at-event-requires-clause-few : goal.event_at-event-requires-clause-few
event_at-event-requires-clause-few c = child_few c.args.children.now c.children.index c.child-item.result.now c.child-item.ensures c.requires.few

pub noted_child-requires-clause-there : goal.noted_child-requires-clause-there
noted_child-requires-clause-there c =
    match_as c.event_at-event.result _ _ _ _ (λ none. tt) (λ index h. got_below c.args.work.list.now.events index h.0 h.1.event) c.event_at-event.ensures

pub ticks_of-requires : goal.ticks_of-requires
ticks_of-requires c = child_few c.args.children.now c.children.index c.child-item.result.now c.child-item.ensures c.requires.few

pub children-preserved : goal.children-preserved
children-preserved c =
    let list = c.args.work.list.now in
    let x = c.child-item.result.now in
    walk_more list c.args.channel (notes_at c.args.work.notes.now) (items_of c.args.children.now) c.children.index c.children.start c.children.at c.saturating_add-start.result c.next_event-at.result
    x c.in_ok-noted_child.field-0 c.event_at-event.result c.children.copies.items c.push.new.self.items (all_timed list c.requires.work.formed) c.child-item.ensures c.next_event-at.ensures
    (as_found list c.args.channel c.children.start x c.event_at-event.result c.event_at-event.ensures) c.in_ok-noted_child.ensures
    (c.saturating_add-start.ensures ∙ ap (λ n. min (c.children.start + n) most_counted) c.ticks_of.ensures) c.in_ok-push.ensures.items c.children.invariant

pub returns : goal.returns
returns c = λ notes same.
    let list = c.args.work.list.now in
    let items = items_of c.args.children.now in
    let have = ap items_of (c.in_ok-made.ensures ∙ ap listed c.of.ensures) ∙ items-listed c.children.copies.items in
    subst (AreNotedChildren list notes c.args.channel (pos 0) items) (sym have)
    (walk_ends list c.args.channel (notes_at c.args.work.notes.now) items c.children.index c.children.start c.children.at c.children.copies.items (omega (arith, c.children-test.false, c.len-index-end.ensures)) c.children.invariant notes same)

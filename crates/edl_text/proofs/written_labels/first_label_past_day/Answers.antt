use Rattle.edl_list.specs.Labelled.{IsLabelled}
use Rattle.edl_text.proofs.FirstEvents.{first_not, more_are, all_are}
use Rattle.edl_text.proofs.written_labels.first_label_past_day.Goals as goal

pub returns-then-not-is_labelled : goal.returns-then-not-is_labelled
returns-then-not-is_labelled c =
    let list = c.args.list.now in
    let below = IsLabelled list.rate c.args.drop in
    let e = c.as_slice-event-items.ensures in
    first_not below list.events c.loop-event.event-index c.event-item.result c.is_labelled.result (rw (← e) c.loop-event-test.true) (rw (← e) c.event-item.is)
    c.loop-event.invariant c.is_labelled.ensures c.if-not-is_labelled.true

pub loop-event-preserved : goal.loop-event-preserved
loop-event-preserved c =
    let list = c.args.list.now in
    let below = IsLabelled list.rate c.args.drop in
    let e = c.as_slice-event-items.ensures in
    more_are below list.events c.loop-event.event-index c.event-item.result c.is_labelled.result (rw (← e) c.loop-event-test.true) (rw (← e) c.event-item.is)
    c.loop-event.invariant c.is_labelled.ensures c.if-not-is_labelled.false

pub returns : goal.returns
returns c =
    let list = c.args.list.now in
    all_are (IsLabelled list.rate c.args.drop) list.events c.loop-event.event-index (rw (← c.as_slice-event-items.ensures) c.loop-event-test.false) c.loop-event.invariant

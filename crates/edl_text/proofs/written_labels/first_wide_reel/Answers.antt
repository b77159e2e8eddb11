use Rattle.edl_list.specs.Layouts.{narrow, FitsEvent}
use Rattle.edl_text.proofs.FirstEvents.{first_not, more_are, all_are}
use Rattle.edl_text.proofs.written_labels.first_wide_reel.Goals as goal

pub returns-then-not-fits_event : goal.returns-then-not-fits_event
returns-then-not-fits_event c =
    let list = c.args.list.now in
    let fits = FitsEvent narrow in
    let e = c.as_slice-event-items.ensures in
    first_not fits list.events c.loop-event.event-index c.event-item.result c.fits_event.result (rw (← e) c.loop-event-test.true) (rw (← e) c.event-item.is)
    c.loop-event.invariant (rw c.of-layout.ensures at c.fits_event.ensures) c.if-not-fits_event.true

pub loop-event-preserved : goal.loop-event-preserved
loop-event-preserved c =
    let list = c.args.list.now in
    let fits = FitsEvent narrow in
    let e = c.as_slice-event-items.ensures in
    more_are fits list.events c.loop-event.event-index c.event-item.result c.fits_event.result (rw (← e) c.loop-event-test.true) (rw (← e) c.event-item.is)
    c.loop-event.invariant (rw c.of-layout.ensures at c.fits_event.ensures) c.if-not-fits_event.false

pub returns : goal.returns
returns c =
    let list = c.args.list.now in
    all_are (FitsEvent narrow) list.events c.loop-event.event-index (rw (← c.as_slice-event-items.ensures) c.loop-event-test.false) c.loop-event.invariant

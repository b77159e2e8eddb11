use Rattle.edl_notes.proofs.FoundSteps.{markers_next}
use Rattle.edl_notes.proofs.locators.put_locators.Goals as goal

pub markers-preserved : goal.markers-preserved
markers-preserved c =
    let s = c.args.shown in
    markers_next s.rate s.event.now s.index c.args.markers.now c.markers.marker-index c.marker-item.result c.args.notes.now.items c.markers.notes.items c.put_locator.new.notes.items
    c.markers-test.true c.marker-item.is c.in_ok-put_locator.ensures c.markers.invariant

use Rattle.std.proofs.Common.{arith, ap, ◌+◌}
use Rattle.flat_stack.specs.Inputs.{inputs_of, slot_of}
use Rattle.flat_stack.specs.Portions.{portions_items}
use Rattle.flat_stack.proofs.SeatLemmas.{standing}
use Rattle.flat_stack.proofs.JoinedTracks.{items_first, items_more, items_past, items_end}
use Rattle.flat_stack.proofs.planned_tracks.seat_portions.Goals as goal

pub parts-init : goal.parts-init
parts-init c =
    let parts = c.args.givers.now.parts.now in
    let none = portions_items (inputs_of parts) c.new-all.result.items in
    items_past c.args.track.rate (slot_of c.args.track.seat) parts none 0 c.next_giver-index.result
    (items_first c.args.track.rate (slot_of c.args.track.seat) parts none
    (ap (portions_items (inputs_of parts)) c.new-all.ensures.items)) c.next_giver-index.ensures.same

pub parts-preserved : goal.parts-preserved
parts-preserved c =
    let parts = c.args.givers.now.parts.now in
    let inputs = inputs_of parts in
    let at = standing parts c.parts.index c.parts-test.true in
    items_past c.args.track.rate (slot_of c.args.track.seat) parts
    (portions_items inputs c.put_part.new.all.items) (c.parts.index + 1) c.next_giver-index-in-parts.result
    (items_more c.args.track.rate (slot_of c.args.track.seat) parts
    (portions_items inputs c.parts.all.items) (portions_items inputs c.put_part.new.all.items)
    c.parts.index at.0 c.parts.invariant at.1 (c.in_ok-put_part.ensures at.0 at.1))
    c.next_giver-index-in-parts.ensures.same

pub returns : goal.returns
returns c =
    let parts = c.args.givers.now.parts.now in
    items_end c.args.track.rate (slot_of c.args.track.seat) parts
    (portions_items (inputs_of parts) c.parts.all.items) c.parts.index
    c.parts.invariant (omega (arith, c.parts-test.false))

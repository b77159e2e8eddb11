use Rattle.std.proofs.Common.{arith, ◌-◌, ◌+◌}
use Rattle.flat_stack.specs.Inputs.{slot_of}
use Rattle.flat_stack.proofs.SeatLemmas.{standing}
use Rattle.flat_stack.proofs.CountLemmas.{left_first, left_more, left_none, left_past}
use Rattle.flat_stack.proofs.counting.room_behind.Goals as goal

pub parts-init : goal.parts-init
parts-init c =
    left_past c.args.givers.now.parts.now (slot_of c.args.seat) c.args.room (c.args.room - 1) 0
    c.next_giver-index.result
    (left_first c.args.givers.now.parts.now (slot_of c.args.seat) c.args.room
    (omega (arith, c.if-room-eq0.false))) c.next_giver-index.ensures.same

pub returns-then-left-count-clause-none : goal.returns-then-left-count-clause-none
returns-then-left-count-clause-none c =
    let parts = c.args.givers.now.parts.now in
    let at = standing parts c.parts.index c.parts-test.true in
    left_none parts (slot_of c.args.seat) c.args.room c.parts.left c.part_count-count.result
    c.parts.index at.0 c.parts.invariant at.1 (c.part_count-count.ensures.value at.0 at.1)
    c.if-left-count.true

pub parts-preserved : goal.parts-preserved
parts-preserved c =
    let parts = c.args.givers.now.parts.now in
    let at = standing parts c.parts.index c.parts-test.true in
    left_past parts (slot_of c.args.seat) c.args.room
    (c.parts.left - c.part_count-count.result) (c.parts.index + 1) c.next_giver-index-in-parts.result
    (left_more parts (slot_of c.args.seat) c.args.room c.parts.left c.part_count-count.result
    c.parts.index at.0 c.parts.invariant at.1 (c.part_count-count.ensures.value at.0 at.1)
    c.if-left-count.false) c.next_giver-index-in-parts.ensures.same

use Rattle.std.proofs.Common.{ap, drop, ◌+◌}
use Rattle.coord.proofs.Members.{next}
use Rattle.flat_stack.specs.Inputs.{slot_of, slots_of}
use Rattle.flat_stack.proofs.CountLemmas.{room_more, room_none}
use Rattle.flat_stack.proofs.counting.are_few.Goals as goal

pub returns-in-None-clause-many : goal.returns-in-None-clause-many
returns-in-None-clause-many c = λ _.
    room_none c.args.givers.now.parts.now (slots_of c.args.seats.now) (slots_of (drop c.seats.index c.args.seats.now)) (slots_of (drop (c.seats.index + 1) c.args.seats.now)) c.args.most c.seats.room (slot_of c.seat_at.result)
    c.seats.invariant (ap slots_of (next c.args.seats.now c.seats.index c.seat_at.result c.seat_at.ensures)) c.in-None.ensures.none

pub seats-preserved : goal.seats-preserved
seats-preserved c =
    room_more c.args.givers.now.parts.now (slots_of c.args.seats.now) (slots_of (drop c.seats.index c.args.seats.now)) (slots_of (drop (c.seats.index + 1) c.args.seats.now)) c.args.most c.seats.room c.in-Some.left (slot_of c.seat_at.result)
    c.seats.invariant (ap slots_of (next c.args.seats.now c.seats.index c.seat_at.result c.seat_at.ensures)) c.in-Some.ensures.some

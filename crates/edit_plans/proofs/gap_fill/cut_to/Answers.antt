use Rattle.std.proofs.Common.{arith, of_z, to_z}
use mir.Syntax.{w128}
use Rattle.std.proofs.lemmas.Int.{ints}
use Rattle.edit_plans.proofs.FillLemmas.{no_piece, piece_as, whole}
use Rattle.edit_plans.proofs.gap_fill.cut_to.Goals as goal

pub returns-then-ticks-room-clause-made : goal.returns-then-ticks-room-clause-made
returns-then-ticks-room-clause-made c =
    whole c.args.item c.args.room c.ticks_of-ticks.result c.args.rate
    c.ticks_of-ticks.ensures.value (omega (arith, ints))

pub returns-then-not-is_whole_at-clause-fault : goal.returns-then-not-is_whole_at-clause-fault
returns-then-not-is_whole_at-clause-fault c =
    no_piece c.args.item c.args.room (to_z w128 (of_z w128 c.args.room)) c.ticks_of-ticks.result
    c.is_whole_at.result c.ticks_of-ticks.ensures.value (omega (arith, ints))
    (omega (arith, ints, c.ranges.room)) c.is_whole_at.ensures c.if-not-is_whole_at.true

pub returns-in-Ok-clause-made : goal.returns-in-Ok-clause-made
returns-in-Ok-clause-made c =
    piece_as c.args.item c.in-Ok.piece c.args.room (to_z w128 (of_z w128 c.args.room))
    (to_z w128 (of_z w128 c.args.room)) c.ticks_of-ticks.result
    (to_z w128 (of_z w128 c.start_ticks-start.result)) c.args.rate c.is_whole_at.result
    c.ticks_of-ticks.ensures.value (omega (arith, ints)) (omega (arith, ints, c.ranges.room))
    c.is_whole_at.ensures c.if-not-is_whole_at.false (omega (arith, ints, c.ranges.room))
    (omega (arith, ints, c.start_ticks-start.ensures.value)) c.in-Ok.ensures

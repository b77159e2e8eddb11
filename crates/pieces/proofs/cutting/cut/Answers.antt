use Rattle.std.proofs.Common.{arith}
use Rattle.std.proofs.lemmas.Int.{to_z-of_z, ints}
use Rattle.pieces.proofs.Faultless.{faultless_short}
use Rattle.pieces.proofs.cutting.cut.Goals as goal

pub is_whole_at-requires-clause-high : goal.is_whole_at-requires-clause-high
is_whole_at-requires-clause-high c =
    let h = faultless_short c.args.item.now c.requires.faultless.sound in
    omega (arith, ints, h, c.ranges.ticks)

pub left_piece-requires-clause-high : goal.left_piece-requires-clause-high
left_piece-requires-clause-high c =
    let h = faultless_short c.args.item.now c.requires.faultless.sound in
    omega (arith, ints, h, c.ranges.ticks)

pub returns-in-Ok-right_piece-clause-left : goal.returns-in-Ok-right_piece-clause-left
returns-in-Ok-right_piece-clause-left c =
    let fits = c.ranges.ticks in simp to_z-of_z at c.in-Ok.ensures

pub returns-in-Ok-right_piece-clause-right : goal.returns-in-Ok-right_piece-clause-right
returns-in-Ok-right_piece-clause-right c =
    let fits = c.ranges.ticks in simp to_z-of_z at c.in-Ok-right_piece.ensures

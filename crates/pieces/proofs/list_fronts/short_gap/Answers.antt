use Rattle.std.proofs.lemmas.Int.{to_z-of_z}
use Rattle.pieces.proofs.NotFar.{gap_within}
use Rattle.pieces.proofs.list_fronts.short_gap.Goals as goal

pub unreachable-requires : goal.unreachable-requires
unreachable-requires c =
    let fits = c.ranges.ticks in
    let far = simp to_z-of_z at c.in-Err.ensures.far in
    gap_within c.args.ticks c.requires.low c.requires.high (far c.in-Err.ensures.range)

pub returns : goal.returns
returns c = let fits = c.ranges.ticks in simp to_z-of_z at c.in-Ok.ensures.made

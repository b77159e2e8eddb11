use Rattle.std.proofs.Common.{arith}
use Rattle.std.proofs.lemmas.Int.{to_z-of_z, ints}
use Rattle.pieces.proofs.NotFar.{cut_front}
use Rattle.pieces.proofs.Faultless.{faultless_is_short}
use Rattle.pieces.proofs.cut_checks.front.Goals as goal

pub front_items-requires-clause-short : goal.front_items-requires-clause-short
front_items-requires-clause-short c = λ i x e. faultless_is_short x (c.requires.faultless i x e)

pub out_of_memory-requires : goal.out_of_memory-requires
out_of_memory-requires c = λ e.
    let fits = c.ranges.ticks in
    let far = simp to_z-of_z at c.in-Err.ensures.far in
    cut_front c.args.list.now c.args.ticks (omega (arith, ints, c.requires.low))
    (omega (arith, ints, c.requires.high)) (far e)

use Rattle.std.proofs.Common.{subst, arith, FitsSigned, ◌≡◌, Some, IfOk, ◌-ℤ◌, refl}
use mir.Syntax.{w128}
use Rattle.std.proofs.lemmas.Int.{to_z-of_z, ints}
use Rattle.edits.specs.Children as children
use Rattle.pieces.proofs.Faultless.{right_is, faultless_short}
use Rattle.pieces.proofs.cutting.right_piece.Goals as goal

pub ticks_of-length-requires : goal.ticks_of-length-requires
ticks_of-length-requires c = record {
  few = c.requires.faultless.few;
  short = faultless_short c.args.item.now c.requires.faultless.sound;
}

pub ranged_within-requires-clause-start_low : goal.ranged_within-requires-clause-start_low
ranged_within-requires-clause-start_low c =
    let near = c.right_start.ensures.near in omega (arith, ints, near.low, near.high)

pub ranged_within-requires-clause-start_high : goal.ranged_within-requires-clause-start_high
ranged_within-requires-clause-start_high c =
    let near = c.right_start.ensures.near in omega (arith, ints, near.low, near.high)

pub returns : goal.returns
returns c =
    let fits_too = c.ranges.ticks in
    let near = c.right_start.ensures.near in
    let fits_media : FitsSigned w128 c.right_start.result =
    omega (arith, ints, near.low, near.high) in
    let fits_length : FitsSigned w128 c.ticks_of-length.result =
    omega (arith, ints, c.ticks_of-length.ensures.low, c.ticks_of-length.ensures.high) in
    let fits_rest : FitsSigned w128 (c.ticks_of-length.result -ℤ c.args.ticks) = omega (
      arith,
      ints,
      c.requires.low,
      c.requires.high,
      c.ticks_of-length.ensures.value,
      c.ticks_of-length.ensures.high,
    ) in
    let made = simp to_z-of_z at c.ranged_within.ensures in
    let is = simp to_z-of_z at c.right_start.ensures.is in
    subst (λ z. IfOk c.ranged_within.result (λ piece. children.made c.args.rate z ≡ Some piece))
    (right_is c.args.item.now c.right_start.result c.args.ticks c.ticks_of-length.result
    (c.ticks_of-length.result -ℤ c.args.ticks) is c.ticks_of-length.ensures.value refl)
    made

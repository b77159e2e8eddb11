use Rattle.std.proofs.Common.{rules, ◌≡◌, FitsSigned, arith, sym, ◌∙◌, ap}
use Rattle.std.proofs.lemmas.Int.{to_z-of_z}
use Rattle.std.specs.Int.{int_rem_euclid, cast_unsigned}
use mir.Syntax.{w128}
use Rattle.std.proofs.lemmas.Bool.Decides.{nat_tests}
use Rattle.tick_time.proofs.Wholes.{rem_zero, zero_rem, zero_from-bits}
use Rattle.tick_time.proofs.times.is_whole.Goals as goal

pub returns : goal.returns
returns c =
    let ticks : FitsSigned w128 c.args.ticks = c.ranges.ticks in
    let piece : FitsSigned w128 c.args.piece = c.ranges.piece in
    let fits : FitsSigned w128 c.rem_euclid.result = search rules in
    let value : c.rem_euclid.result ≡ int_rem_euclid c.args.ticks c.args.piece = simp to_z-of_z at c.rem_euclid.ensures.value in (
      λ h. let zero : cast_unsigned w128 c.rem_euclid.result ≡ 0 = grind (arith, nat_tests, h) in
          rem_zero c.args.ticks c.args.piece c.requires (sym value ∙ zero_from-bits c.rem_euclid.result fits zero),
      λ h. let zero : cast_unsigned w128 c.rem_euclid.result ≡ 0 = ap (cast_unsigned w128) (value ∙ zero_rem c.args.ticks c.args.piece c.requires h) in
          grind (arith, nat_tests, zero),
    )

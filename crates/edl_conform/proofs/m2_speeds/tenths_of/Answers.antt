use Rattle.std.proofs.Common.{◌≡◌, ◌∙◌, sym, to_z, of_z, arith}
use mir.Syntax.{w64}
use Rattle.std.proofs.lemmas.Int.{ints}
use Rattle.edl_conform.proofs.TenthsLemmas.{found_some, found_none, found_below}
use Rattle.edl_conform.proofs.m2_speeds.tenths_of.Goals as goal
use Rattle.edl_conform.proofs.m2_speeds.tenths_of.Goals.{else-tenths-le9999-via-then-tenths-le9999+else-half_even-speed, else-tenths-le9999-via-else-tenths-le9999}

pub returns-then-speed-lt0 : goal.returns-then-speed-lt0
returns-then-speed-lt0 c =
    let e = c.if-speed-lt0.true in
    found_below c.args.count c.args.speed (omega (arith, ints, e))

pub returns-then-half_even-speed : goal.returns-then-half_even-speed
returns-then-half_even-speed c =
    let e = c.if-speed-lt0.false in
    let raw : to_z w64 (of_z w64 c.args.speed) ≡ c.args.speed = omega (arith, ints) in
    found_some c.args.count c.args.speed _ c.nearest-tenths.result raw (omega (arith, ints, e))
    c.requires.some c.requires.few c.if-tenths-le9999.true
    (sym c.half_even.ensures ∙ c.if-half_even-speed.true)

pub returns-else-tenths-le9999 : goal.returns-else-tenths-le9999
returns-else-tenths-le9999 c =
    let e = c.if-speed-lt0.false in
    let raw : to_z w64 (of_z w64 c.args.speed) ≡ c.args.speed = omega (arith, ints) in
    found_none c.args.count c.args.speed _ c.nearest-tenths.result raw (omega (arith, ints, e))
    c.requires.some c.requires.few c.nearest-tenths.ensures
    (λ low same. elim c.else-tenths-le9999.branch [
      | else-tenths-le9999-via-then-tenths-le9999+else-half_even-speed w ↦
          w.if-half_even-speed.false (w.half_even.ensures ∙ same)
      | else-tenths-le9999-via-else-tenths-le9999 w ↦ let f = w.if-tenths-le9999.false in
          absurd (omega (arith, f, low))
    ])

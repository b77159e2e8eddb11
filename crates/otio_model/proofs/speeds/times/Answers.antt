use Rattle.std.proofs.Common.{◌≡◌, ◌∙◌, ap, ◌*ℤ◌, to_z, of_z, arith}
use mir.Syntax.{w64, w128}
use Rattle.std.proofs.lemmas.Int.{ints}
use Rattle.otio_model.proofs.SpeedLemmas.{product_low, product_high}
use Rattle.otio_model.proofs.speeds.times.Goals as goal

pub from_millionths-requires-clause-high : goal.from_millionths-requires-clause-high
from_millionths-requires-clause-high c =
    let r = c.requires in
    let a : to_z w128 (of_z w128 c.args.speed) ≡ c.args.speed = omega (arith, ints, r.speed_low, r.speed_high) in
    let b : to_z w64 (of_z w64 c.args.scalar) ≡ c.args.scalar = omega (arith, ints, r.scalar_low, r.scalar_high) in
    let e = c.product.ensures ∙ ap (λ z. z *ℤ to_z w64 (of_z w64 c.args.scalar)) a ∙ ap (λ z. c.args.speed *ℤ z) b in
    let l = product_low c.product.result c.args.speed c.args.scalar e r.speed_low r.speed_high r.scalar_low r.scalar_high in
    let h = product_high c.product.result c.args.speed c.args.scalar e r.speed_low r.speed_high r.scalar_low r.scalar_high in
    omega (arith, ints, l, h)

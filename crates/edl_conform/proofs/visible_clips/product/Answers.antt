use Rattle.std.proofs.Common.{◌≡◌, sym, subst, ap₂, ℤ, ◌*ℤ◌, to_z, of_z, arith}
use mir.Syntax.{w64}
use Rattle.std.specs.Int.{w128}
use Rattle.std.proofs.lemmas.Int.{ints}
use Rattle.edl_conform.specs.Ranges.{IsNear}
use Rattle.edl_conform.proofs.NearLemmas.{IsProduct, product_is}
use Rattle.edl_conform.proofs.visible_clips.product.Goals as goal

-- what the code hands to the product, and the product
made : (ticks speed from : ℤ) → IsNear 2116800000000000000000000 ticks
    → IsNear 1000000000 speed → from ≡ to_z w64 (of_z w64 speed)
    → IsProduct (to_z w128 (of_z w128 (to_z w128 (of_z w128 ticks) *ℤ to_z w128 (of_z w128 from))))
    ticks speed
made ticks speed from near slow is =
    let x : to_z w128 (of_z w128 ticks) ≡ ticks = omega (arith, ints, near.low, near.high) in
    let y : to_z w128 (of_z w128 from) ≡ speed = omega (arith, ints, is, slow.low, slow.high) in
    subst (λ z. IsProduct (to_z w128 (of_z w128 z)) ticks speed) (sym (ap₂ (λ u v. u *ℤ v) x y))
    (product_is ticks speed near slow)

pub returns-clause-value : goal.returns-clause-value
returns-clause-value c =
    let r = c.requires in
    (made c.args.ticks c.args.speed c.from.result (record { low = r.low; high = r.high })
    (record { low = r.speed_low; high = r.speed_high }) c.from.ensures).value

pub returns-clause-least : goal.returns-clause-least
returns-clause-least c =
    let r = c.requires in
    (made c.args.ticks c.args.speed c.from.result (record { low = r.low; high = r.high })
    (record { low = r.speed_low; high = r.speed_high }) c.from.ensures).near.low

pub returns-clause-most : goal.returns-clause-most
returns-clause-most c =
    let r = c.requires in
    (made c.args.ticks c.args.speed c.from.result (record { low = r.low; high = r.high })
    (record { low = r.speed_low; high = r.speed_high }) c.from.ensures).near.high

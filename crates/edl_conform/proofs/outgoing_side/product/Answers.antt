use Rattle.std.proofs.Common.{◌≡◌, sym, subst, ap₂, ◌*ℤ◌, to_z, of_z, arith}
use Rattle.std.specs.Int.{w128}
use Rattle.std.proofs.lemmas.Int.{ints}
use Rattle.edl_conform.specs.ConformedRanges.{IsLess}
use Rattle.edl_conform.proofs.ProductBounds.{product_less}
use Rattle.edl_conform.proofs.outgoing_side.product.Goals as goal

pub returns-clause-less : goal.returns-clause-less
returns-clause-less c =
    let a = c.ranges.a in let b = c.ranges.b in let m = c.from.ensures in let n = c.from-2.ensures in
    let x : to_z w128 (of_z w128 c.from.result) ≡ c.args.a = omega (arith, ints, m, a) in
    let y : to_z w128 (of_z w128 c.from-2.result) ≡ c.args.b = omega (arith, ints, n, b) in
    let p = product_less c.args.a c.args.b c.requires.a c.requires.b in
    let low = p.low in let high = p.high in
    let z : (to_z w128 (of_z w128 c.from.result) *ℤ to_z w128 (of_z w128 c.from-2.result)) ≡ (c.args.a *ℤ c.args.b) = ap₂ (λ u v. u *ℤ v) x y in
    let w : to_z w128 (of_z w128 (to_z w128 (of_z w128 c.from.result) *ℤ to_z w128 (of_z w128 c.from-2.result))) ≡ (c.args.a *ℤ c.args.b) = omega (arith, ints, z, low, high) in
    subst IsLess (sym w) p

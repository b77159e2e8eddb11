use Rattle.std.proofs.Common.{arith, ap₂, pos, ◌*ℤ◌, ◌∙◌, ◌≡◌, ◌+ℤ◌, to_z, of_z, ℤ}
use Rattle.std.specs.Int.{w128, w64, int_div_euclid}
use Rattle.std.proofs.lemmas.Int.{ints}
use Rattle.edit_plans.proofs.items.inner.Goals as goal

pub returns : goal.returns
returns c =
    let k = c.start_ticks.ensures in let m = c.media_offset.ensures in let r = c.speed.ensures.range in
    let l = c.requires.near.low in let h = c.requires.near.high in
    let sum : to_z w128 (of_z w128 (to_z w128 (of_z w128 c.start_ticks.result) +ℤ to_z w128
    (of_z w128 c.media_offset.result))) ≡ c.start_ticks.result +ℤ c.media_offset.result = omega (arith, ints) in
    let a : to_z w128 (of_z w128 c.args.ticks) ≡ c.args.ticks = omega (arith, ints) in
    let b : to_z w64 (of_z w64 c.speed.result) ≡ c.speed.result =
    omega (arith, ints, r.low, r.high) in
    sum ∙ ap₂ (λ (x y : ℤ). x +ℤ y) k.value (m.value
    ∙ ap₂ (λ x y. int_div_euclid (x *ℤ y) (pos 1000000)) a (b ∙ c.speed.ensures.value))

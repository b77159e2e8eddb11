use Rattle.std.proofs.Common.{◌≡◌, ◌∙◌, ap, ap₂, sym, ℤ, ◌-ℤ◌, ◌*ℤ◌, to_z, of_z, arith}
use Rattle.std.specs.Int.{w128}
use Rattle.std.proofs.lemmas.Int.{ints}
use Rattle.show_prog.proofs.FarInstants.{instant_by, none_by_ticks, value_by}
use Rattle.show_prog.proofs.shows.instant.Goals as goal

pub returns-in-Some : goal.returns-in-Some
returns-in-Some c =
    let a : to_z w128 (of_z w128 c.args.frame) ≡ c.args.frame = omega (arith, ints) in
    let b : to_z w128 (of_z w128 c.args.start) ≡ c.args.start = omega (arith, ints) in
    let f : to_z w128 (of_z w128 c.args.ticks) ≡ c.args.ticks = omega (arith, ints) in
    let d : to_z w128 (of_z w128 c.in-Some.offset) ≡ c.in-Some.offset = omega (arith, ints) in
    let offset =
    d ∙ value_by _ c.checked_sub.result c.in-Some.offset _ c.checked_sub.ensures c.in-Some.is
    ∙ ap₂ (λ (x y : ℤ). x -ℤ y) a b in
    instant_by c.checked_mul.result _ _ c.checked_mul.ensures (ap₂ (λ (x y : ℤ). x *ℤ y) offset f)

pub returns-in-None : goal.returns-in-None
returns-in-None c =
    let a : to_z w128 (of_z w128 c.args.frame) ≡ c.args.frame = omega (arith, ints) in
    let b : to_z w128 (of_z w128 c.args.start) ≡ c.args.start = omega (arith, ints) in
    none_by_ticks c.checked_sub.result _ _ c.args.ticks c.checked_sub.ensures c.in-None.is
    c.requires
    (sym (ap (λ (x : ℤ). x *ℤ c.args.ticks) (ap₂ (λ (x y : ℤ). x -ℤ y) a b)))

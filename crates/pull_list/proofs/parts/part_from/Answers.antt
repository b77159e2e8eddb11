use Rattle.std.proofs.Common.{◌≡◌, refl, subst, ℕ, List, ℤ, ◌+ℤ◌, ◌-ℤ◌, to_z, of_z, arith}
use Rattle.std.specs.Int.{w128}
use Rattle.std.proofs.lemmas.Int.{ints}
use Rattle.pull_list.specs.Parts.{IsShowing}
use Rattle.pull_list.proofs.PartLemmas.{part_begins}
use Rattle.pull_list.proofs.parts.part_from.Goals as goal

pub returns-clause-part : goal.returns-clause-part
returns-clause-part c =
    let x = c.args.item.now in let s = c.showing_at-showing.result in
    let h = c.showing_at-showing.ensures in
    let low = c.requires.low in let high = c.requires.high in
    let a : to_z w128 (of_z w128 c.args.ticks) ≡ c.args.ticks = omega (arith, ints) in
    let g = h.low in let k = h.high in let m = h.some in let n = h.most in
    let b : to_z w128 (of_z w128 (to_z w128 (of_z w128 s.ticks) -ℤ to_z w128 (of_z w128 c.args.ticks)))
    ≡ s.ticks -ℤ c.args.ticks = omega (arith, ints, g, k, low, high) in
    let d : to_z w128 (of_z w128 (to_z w128 (of_z w128 c.args.ticks) +ℤ to_z w128 (of_z w128 s.len)))
    ≡ c.args.ticks +ℤ s.len = omega (arith, ints, m, n, low, high) in
    part_begins x c.args.ticks s _
    (subst (λ (k : List ℕ). IsShowing x k c.args.ticks s) c.root_kind.ensures
    (subst (λ (u : ℤ). IsShowing x c.root_kind.result.now u s) a h))
    low high refl b d

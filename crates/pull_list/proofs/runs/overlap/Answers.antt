use Rattle.std.proofs.Common.{refl, arith, ◌≡◌, sym, subst, to_z, of_z}
use Rattle.std.specs.Int.{w128}
use Rattle.std.proofs.lemmas.Int.{ints}
use Rattle.pull_list.specs.Runs.{IsGreater, IsLesser}
use Rattle.pull_list.proofs.Common.{none_has, overlap_has}
use Rattle.pull_list.proofs.runs.overlap.Goals as goal

pub returns-then-first-past-clause-has : goal.returns-then-first-past-clause-has
returns-then-first-past-clause-has c =
    let same = c.if-one-other.false in
    let a : to_z w128 (of_z w128 c.later_first-first.result) ≡ c.later_first-first.result = omega (arith, ints) in
    let b : to_z w128 (of_z w128 c.earlier_past-past.result) ≡ c.earlier_past-past.result = omega (arith, ints) in λ k v.
    overlap_has c.args.one c.args.other _ k v (omega (arith, same)) refl
    (subst (IsGreater c.args.one.first c.args.other.first) (sym a) c.later_first-first.ensures)
    (subst (IsLesser c.args.one.past c.args.other.past) (sym b) c.earlier_past-past.ensures)

pub returns-else-first-past-clause-has : goal.returns-else-first-past-clause-has
returns-else-first-past-clause-has c =
    let far = c.if-first-past.false in λ k v.
    none_has c.args.one c.args.other c.later_first-first.result c.earlier_past-past.result k v
    c.later_first-first.ensures c.earlier_past-past.ensures (omega (arith, ints, far))

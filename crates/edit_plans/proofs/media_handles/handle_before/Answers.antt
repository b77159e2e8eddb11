use Rattle.std.proofs.Common.{rules, arith, ◌≡◌, ap, ◌∙◌, FitsSigned, pos, ◌+ℤ◌, ◌-ℤ◌}
use mir.Syntax.{w128}
use Rattle.std.specs.Int.{int_div_euclid, int_max, int_min}
use Rattle.std.proofs.lemmas.Int.{to_z-of_z, ints}
use Rattle.edit_plans.proofs.media_handles.handle_before.Goals as goal

pub returns-clause-value : goal.returns-clause-value
returns-clause-value c =
    let start = c.ranges.start in
    let millionths = c.ranges.millionths in
    let f1 : FitsSigned w128 c.reach_back.result = search rules in
    let f2 : FitsSigned w128 c.media_before.result = search rules in
    let f3 : FitsSigned w128 c.at_least_none.result = search rules in
    let f4 : FitsSigned w128 c.args.media.start.ticks =
    omega (arith, ints, c.args.media.start.low, c.args.media.start.high) in
    let e1 : c.reach_back.result ≡ int_div_euclid (int_min (pos 0) c.args.millionths)
    (pos 1000000) = simp to_z-of_z at c.reach_back.ensures.value in
    let e2 : c.media_before.result ≡ ((c.args.start +ℤ c.reach_back.result)
    -ℤ c.args.media.start.ticks) = simp to_z-of_z at c.media_before.ensures.value in
    let e3 : c.at_least_none.result ≡ int_max (pos 0) c.media_before.result =
    simp to_z-of_z at c.at_least_none.ensures.value in
    simp to_z-of_z (e3 ∙ ap (int_max (pos 0)) (e2 ∙ ap
    (λ z. (c.args.start +ℤ z) -ℤ c.args.media.start.ticks) e1))

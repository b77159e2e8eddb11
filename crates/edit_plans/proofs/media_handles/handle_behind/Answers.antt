use Rattle.std.proofs.Common.{rules, ◌≡◌, ap, ap₂, ◌∙◌, FitsSigned, pos, ◌+ℤ◌, ◌-ℤ◌}
use mir.Syntax.{w128}
use Rattle.std.specs.Int.{int_div_euclid, int_max, int_min}
use Rattle.std.proofs.lemmas.Int.{to_z-of_z}
use Rattle.edit_plans.proofs.media_handles.handle_behind.Goals as goal

pub returns-clause-value : goal.returns-clause-value
returns-clause-value c =
    let start = c.ranges.start in
    let millionths = c.ranges.millionths in
    let f0 : FitsSigned w128 c.end_of.result = search rules in
    let f1 : FitsSigned w128 c.back.result = search rules in
    let f2 : FitsSigned w128 c.reach_back.result = search rules in
    let f3 : FitsSigned w128 c.media_behind.result = search rules in
    let f4 : FitsSigned w128 c.at_least_none.result = search rules in
    let e0 : c.end_of.result ≡ (c.args.media.start.ticks +ℤ c.args.media.len.ticks) =
    c.end_of.ensures.value in
    let e1 : c.back.result ≡ (pos 0 -ℤ c.args.millionths) =
    simp to_z-of_z at c.back.ensures.value in
    let e2 : c.reach_back.result ≡ int_div_euclid (int_min (pos 0) c.back.result) (pos 1000000) =
    simp to_z-of_z at c.reach_back.ensures.value in
    let e3 : c.media_behind.result ≡ ((c.end_of.result -ℤ c.args.start) +ℤ c.reach_back.result) =
    simp to_z-of_z at c.media_behind.ensures.value in
    let e4 : c.at_least_none.result ≡ int_max (pos 0) c.media_behind.result =
    simp to_z-of_z at c.at_least_none.ensures.value in
    simp to_z-of_z (e4 ∙ ap (int_max (pos 0)) (e3 ∙ ap₂ (λ y z. (y -ℤ c.args.start) +ℤ z) e0
    (e2 ∙ ap (λ z. int_div_euclid (int_min (pos 0) z) (pos 1000000)) e1)))

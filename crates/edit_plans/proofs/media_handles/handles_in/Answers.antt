use Rattle.std.proofs.Common.{rules, ◌≡◌, ap, ◌∙◌, FitsSigned, pos, ◌+ℤ◌, ◌-ℤ◌, ◌*ℤ◌}
use mir.Syntax.{w128}
use Rattle.std.specs.Int.{int_div_euclid, int_max, int_min}
use Rattle.std.proofs.lemmas.Int.{to_z-of_z}
use Rattle.edit_plans.proofs.media_handles.handles_in.Goals as goal

pub returns-clause-before : goal.returns-clause-before
returns-clause-before c =
    let start = c.ranges.start in
    let length = c.ranges.ticks in
    let speed = c.ranges.speed in
    let f1 : FitsSigned w128 c.media_ticks-played.result = search rules in
    let f2 : FitsSigned w128 c.handle_before.result = search rules in
    let e1 : c.media_ticks-played.result ≡ (c.args.ticks *ℤ c.args.speed) =
    simp to_z-of_z at c.media_ticks-played.ensures.value in
    let e2 : c.handle_before.result ≡ int_max (pos 0)
    ((c.args.start +ℤ int_div_euclid (int_min (pos 0) c.media_ticks-played.result)
    (pos 1000000)) -ℤ c.args.media.start.ticks) =
    simp to_z-of_z at c.handle_before.ensures.value in
    simp to_z-of_z (e2 ∙ ap (λ z. int_max (pos 0) ((c.args.start
    +ℤ int_div_euclid (int_min (pos 0) z) (pos 1000000)) -ℤ c.args.media.start.ticks)) e1)

pub returns-clause-behind : goal.returns-clause-behind
returns-clause-behind c =
    let start = c.ranges.start in
    let length = c.ranges.ticks in
    let speed = c.ranges.speed in
    let f1 : FitsSigned w128 c.media_ticks-played.result = search rules in
    let f2 : FitsSigned w128 c.handle_behind.result = search rules in
    let e1 : c.media_ticks-played.result ≡ (c.args.ticks *ℤ c.args.speed) =
    simp to_z-of_z at c.media_ticks-played.ensures.value in
    let e2 : c.handle_behind.result ≡ int_max (pos 0)
    (((c.args.media.start.ticks +ℤ c.args.media.len.ticks) -ℤ c.args.start)
    +ℤ int_div_euclid (int_min (pos 0) (pos 0 -ℤ c.media_ticks-played.result))
    (pos 1000000)) = simp to_z-of_z at c.handle_behind.ensures.value in
    simp to_z-of_z (e2 ∙ ap (λ z. int_max (pos 0) (((c.args.media.start.ticks
    +ℤ c.args.media.len.ticks) -ℤ c.args.start)
    +ℤ int_div_euclid (int_min (pos 0) (pos 0 -ℤ z)) (pos 1000000))) e1)

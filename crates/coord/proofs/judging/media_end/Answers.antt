use Rattle.std.proofs.Common.{FitsSigned, w64, arith, rules, ◌∙◌, ap, pos, ◌+ℤ◌, ◌*ℤ◌}
use Rattle.std.specs.Int.{w128}
use Rattle.std.proofs.lemmas.Int.{to_z-of_z, to_z_pos}
use Rattle.coord.proofs.MediaTicks.{start_near, near_fits, sum_fits}
use Rattle.coord.proofs.judging.media_end.Goals as goal

pub overflow_add-result : goal.overflow_add-result
overflow_add-result c =
    let start : FitsSigned w128 c.args.start = c.ranges.start in
    let ticks : FitsSigned w128 c.media_ticks.result = search rules in
    let near = start_near c.args.start c.requires.low c.requires.high in
    let product = near_fits (c.args.start *ℤ pos 1000000) (omega (arith, near)) in
    let sum = sum_fits (c.args.start *ℤ pos 1000000) c.media_ticks.result near
    c.media_ticks.ensures.least c.media_ticks.ensures.most in
    simp to_z-of_z sum

pub returns : goal.returns
returns c =
    let start : FitsSigned w128 c.args.start = c.ranges.start in
    let speed : FitsSigned w64 c.args.speed = c.ranges.speed in
    let ticks : FitsSigned w128 c.media_ticks.result = search rules in
    let near = start_near c.args.start c.requires.low c.requires.high in
    let product = near_fits (c.args.start *ℤ pos 1000000) (omega (arith, near)) in
    let sum = sum_fits (c.args.start *ℤ pos 1000000) c.media_ticks.result near
    c.media_ticks.ensures.least c.media_ticks.ensures.most in
    let whole = to_z_pos w128 c.args.ticks (omega (arith, c.requires.ticks)) in
    let value = simp to_z-of_z at c.media_ticks.ensures.value in
    let same = value ∙ ap (λ t. t *ℤ c.args.speed) whole in
    simp to_z-of_z (ap (λ r. (c.args.start *ℤ pos 1000000) +ℤ r) same)

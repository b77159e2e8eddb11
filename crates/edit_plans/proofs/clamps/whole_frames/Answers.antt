use Rattle.std.proofs.Common.{rules, pos, arith, FitsSigned, ◌*ℤ◌, ◌≤ℤ◌}
use mir.Syntax.{w128}
use Rattle.std.proofs.lemmas.Int.{to_z-of_z, ints}
use Rattle.edit_plans.proofs.clamps.whole_frames.Goals as goal

pub overflow_mul-result : goal.overflow_mul-result
overflow_mul-result c =
    let fits_ticks = c.ranges.ticks in
    let fits_frame = c.ranges.frame in
    let fits : FitsSigned w128 c.frame_count.result = search rules in
    let low : pos 0 ≤ℤ (c.frame_count.result *ℤ c.args.frame) =
    simp to_z-of_z at c.frame_count.ensures.least in
    let high : (c.frame_count.result *ℤ c.args.frame) ≤ℤ c.args.ticks =
    simp to_z-of_z at c.frame_count.ensures.most in
    let whole : FitsSigned w128 (c.frame_count.result *ℤ c.args.frame) =
    omega (arith, ints, low, high, c.ranges.ticks) in
    simp to_z-of_z whole

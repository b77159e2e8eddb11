use Rattle.std.proofs.Common.{rules, pos, sym, subst, FitsSigned, ◌≡◌, ◌*ℤ◌, ◌≤ℤ◌}
use mir.Syntax.{w128}
use Rattle.std.specs.Int.{int_div_euclid}
use Rattle.std.proofs.lemmas.Int.{to_z-of_z}
use Rattle.edit_plans.proofs.Floors.{floor_low, floor_high}
use Rattle.edit_plans.proofs.clamps.frame_count.Goals as goal

pub returns-clause-least : goal.returns-clause-least
returns-clause-least c =
    let fits_ticks = c.ranges.ticks in
    let fits_frame = c.ranges.frame in
    let fits : FitsSigned w128 c.div_euclid.result = search rules in
    let value : c.div_euclid.result ≡ int_div_euclid c.args.ticks c.args.frame =
    simp to_z-of_z at c.div_euclid.ensures in
    simp to_z-of_z (subst (λ q. pos 0 ≤ℤ (q *ℤ c.args.frame)) (sym value)
    (floor_low c.args.ticks c.args.frame c.requires.low c.requires.frame))

pub returns-clause-most : goal.returns-clause-most
returns-clause-most c =
    let fits_ticks = c.ranges.ticks in
    let fits_frame = c.ranges.frame in
    let fits : FitsSigned w128 c.div_euclid.result = search rules in
    let value : c.div_euclid.result ≡ int_div_euclid c.args.ticks c.args.frame =
    simp to_z-of_z at c.div_euclid.ensures in
    simp to_z-of_z (subst (λ q. (q *ℤ c.args.frame) ≤ℤ c.args.ticks) (sym value)
    (floor_high c.args.ticks c.args.frame c.requires.low c.requires.frame))

-- The product fits in 128 bits.
use Rattle.std.proofs.Common.{FitsSigned, w64, arith, rules, ◌≡◌, ap, ◌*ℤ◌}
use Rattle.std.specs.Int.{w128}
use Rattle.std.proofs.lemmas.Int.{ints, to_z-of_z}
use Rattle.coord.proofs.MediaTicks.{product_near, near_fits}
use Rattle.coord.proofs.speeds.media_millionths.Goals as goal

pub overflow_mul-result : goal.overflow_mul-result
overflow_mul-result c =
    let speed : FitsSigned w64 c.args.speed = c.ranges.speed in
    let ticks : FitsSigned w128 c.args.ticks = c.ranges.ticks in
    let same : c.from.result ≡ c.args.speed = simp to_z-of_z at c.from.ensures in
    let wide : FitsSigned w128 c.from.result = search rules in
    let near = product_near c.args.ticks c.from.result
    (omega (arith, ints, same, c.requires.speed_low, c.requires.speed_high)) in
    let product = near_fits (c.args.ticks *ℤ c.from.result)
    (omega (arith, ints, near, c.requires.low, c.requires.high)) in
    simp to_z-of_z product

pub returns-clause-value : goal.returns-clause-value
returns-clause-value c =
    let speed : FitsSigned w64 c.args.speed = c.ranges.speed in
    let ticks : FitsSigned w128 c.args.ticks = c.ranges.ticks in
    let same : c.from.result ≡ c.args.speed = simp to_z-of_z at c.from.ensures in
    let wide : FitsSigned w128 c.from.result = search rules in
    let near = product_near c.args.ticks c.from.result
    (omega (arith, ints, same, c.requires.speed_low, c.requires.speed_high)) in
    let product = near_fits (c.args.ticks *ℤ c.from.result)
    (omega (arith, ints, near, c.requires.low, c.requires.high)) in
    simp to_z-of_z (ap (λ s. c.args.ticks *ℤ s) same)

pub returns-clause-near : goal.returns-clause-near
returns-clause-near c =
    let speed : FitsSigned w64 c.args.speed = c.ranges.speed in
    let ticks : FitsSigned w128 c.args.ticks = c.ranges.ticks in
    let same : c.from.result ≡ c.args.speed = simp to_z-of_z at c.from.ensures in
    let wide : FitsSigned w128 c.from.result = search rules in
    let near = product_near c.args.ticks c.from.result
    (omega (arith, ints, same, c.requires.speed_low, c.requires.speed_high)) in
    let product = near_fits (c.args.ticks *ℤ c.from.result)
    (omega (arith, ints, near, c.requires.low, c.requires.high)) in
    simp to_z-of_z near

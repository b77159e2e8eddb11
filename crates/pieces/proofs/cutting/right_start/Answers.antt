use Rattle.std.proofs.Common.{rules, arith, subst, to_z, of_z, FitsSigned, ◌≡◌}
use mir.Syntax.{w64, w128}
use Rattle.std.proofs.lemmas.Int.{to_z-of_z, ints}
use Rattle.coord.specs.Speeds as speeds
use Rattle.pieces.specs.Short.{IsRightStart}
use Rattle.pieces.proofs.Faultless.{faultless_short}
use Rattle.pieces.proofs.NotFar.{right_start-is}
use Rattle.pieces.proofs.cutting.right_start.Goals as goal

pub media_at-requires-clause-high : goal.media_at-requires-clause-high
media_at-requires-clause-high c =
    let h = faultless_short c.args.item.now c.requires.faultless.sound in
    omega (arith, ints, h, c.requires.high, c.ranges.ticks)

pub returns : goal.returns
returns c =
    let fits : FitsSigned w128 c.start_ticks.result = search rules in
    let fits_too = c.ranges.ticks in
    let fits_speed : FitsSigned w64 c.speed.result = search rules in
    let media : c.media_at.result
    ≡ speeds.media_at c.start_ticks.result c.speed.result c.args.ticks =
    simp to_z-of_z at c.media_at.ensures in
    let start = right_start-is c.args.item.now c.args.ticks c.media_at.result
    c.start_ticks.result c.speed.result c.requires.faultless.sound c.requires.low c.requires.high
    media c.start_ticks.ensures.value c.speed.ensures.value in
    let same : c.media_at.result ≡ to_z w128 (of_z w128 c.media_at.result) =
    omega (arith, ints, start.near.low, start.near.high) in
    subst (IsRightStart c.args.item.now c.args.ticks) same start

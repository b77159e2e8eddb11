use Rattle.std.proofs.Common.{arith, ◌≡◌, pos, ◌*ℤ◌}
use Rattle.std.specs.Int.{int_div_euclid}
use Rattle.std.proofs.lemmas.Int.{to_z-of_z, ints}
use Rattle.pieces.proofs.cutting.media_at.Goals as goal

pub media_offset-requires-clause-speed_low : goal.media_offset-requires-clause-speed_low
media_offset-requires-clause-speed_low c =
    let speed = c.requires.speed in omega (arith, ints, speed.low, speed.high)

pub media_offset-requires-clause-speed_high : goal.media_offset-requires-clause-speed_high
media_offset-requires-clause-speed_high c =
    let speed = c.requires.speed in omega (arith, ints, speed.low, speed.high)

pub returns : goal.returns
returns c =
    let fits_ticks = c.ranges.ticks in
    let fits_speed = c.ranges.speed in
    let offset : c.media_offset.result
    ≡ int_div_euclid (c.args.ticks *ℤ c.args.speed) (pos 1000000) =
    simp to_z-of_z at c.media_offset.ensures.value in
    omega (
      arith,
      ints,
      c.ranges.start,
      offset,
      c.media_offset.ensures.least,
      c.media_offset.ensures.most,
    )

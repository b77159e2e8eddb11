use Rattle.std.proofs.Common.{◌≡◌, to_z, of_z, arith}
use Rattle.std.specs.Int.{w128}
use Rattle.std.proofs.lemmas.Int.{ints}
use Rattle.edl_conform.proofs.NearLemmas.{played_near}
use Rattle.edl_conform.proofs.visible_clips.played.Goals as goal

pub returns-clause-range : goal.returns-clause-range
returns-clause-range c =
    let n = c.requires.ticks in
    let x : to_z w128 (of_z w128 c.args.ticks) ≡ c.args.ticks =
    omega (arith, ints, n.low, n.high) in
    played_near 2116800000000000000000000 2116800000000000000000000001 c.args.ticks _
    c.media_offset.result n x c.media_offset.ensures.near (omega arith) (omega arith)

use Rattle.std.proofs.Common.{◌≡◌, ◌∙◌, ◌-ℤ◌, to_z, of_z, arith}
use Rattle.std.specs.Int.{w128, w64}
use Rattle.std.proofs.lemmas.Int.{ints}
use Rattle.edl_conform.specs.Stated.{stated_job}
use Rattle.edl_conform.proofs.CastLemmas.{kept}
use Rattle.edl_conform.proofs.PartLemmas.{source_is}
use Rattle.edl_conform.proofs.visible_clips.source_at.Goals as goal

pub returns-clause-value : goal.returns-clause-value
returns-clause-value c =
    let shot = c.requires.shot in
    let slow = shot.slow in
    let near = shot.near in
    let s : to_z w128 (of_z w128 c.args.shot.now.start) ≡ c.args.shot.now.start =
    omega (arith, ints, near.low, near.high) in
    let v : to_z w64 (of_z w64 c.args.shot.now.speed) ≡ c.args.shot.now.speed =
    omega (arith, ints, slow.low, slow.high) in
    let a = c.requires.at in
    let b = c.requires.start in
    let u : to_z w128
    (of_z w128 (to_z w128 (of_z w128 c.args.at) -ℤ to_z w128 (of_z w128 c.args.start)))
    ≡ c.args.at -ℤ c.args.start = omega (arith, ints, a.low, a.high, b.low, b.high) in
    let r = kept 1000000000000 c.frames_in.result (omega arith) c.frames_in.ensures.range in
    let m = kept 2822400000000000000000000000 c.media_at.result
    (omega arith) c.media_at.ensures.range in
    source_is (stated_job c.args.job.now) c.args.shot.now c.args.start c.args.at _ _ _ _ _ shot
    (r ∙ c.frames_in.ensures.value) (m ∙ c.media_at.ensures.value) s v u

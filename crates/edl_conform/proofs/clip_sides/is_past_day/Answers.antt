use Rattle.std.proofs.Common.{◌≡◌, ◌∙◌, ap₂, ℤ, pos, ◌+ℤ◌, ◌*ℤ◌, to_z, of_z, arith}
use Rattle.std.specs.Int.{w128, w64, int_div_euclid}
use Rattle.std.proofs.lemmas.Int.{ints}
use Rattle.edl_frames.specs.Sides.{source_at}
use Rattle.edl_conform.specs.Stated.{stated_job}
use Rattle.edl_conform.specs.Shots.{clip_of}
use Rattle.edl_conform.proofs.CastLemmas.{kept}
use Rattle.edl_conform.proofs.PartLemmas.{past_day_is}
use Rattle.edl_conform.proofs.clip_sides.is_past_day.Goals as goal

pub returns : goal.returns
returns c =
    let slow = c.requires.shown.shot.slow in
    let a = c.requires.part.at in
    let b = c.requires.shown.start in
    let d = c.requires.part.counted in
    let s : to_z w128 (of_z w128 c.args.shown.now.start) ≡ c.args.shown.now.start =
    omega (arith, ints, b.low, b.high) in
    let t : to_z w128 (of_z w128 c.args.part.at) ≡ c.args.part.at =
    omega (arith, ints, a.low, a.high) in
    let n : to_z w128 (of_z w128 c.args.part.counted) ≡ c.args.part.counted =
    omega (arith, ints, d.low, d.high) in
    let v : to_z w64 (of_z w64 c.args.shown.now.shot.speed) ≡ c.args.shown.now.shot.speed =
    omega (arith, ints, slow.low, slow.high) in
    let f = c.source_at-first.ensures.range in
    let p = c.played.ensures.range in
    let first = kept 1000000000000 c.source_at-first.result (omega arith) f in
    let gone = kept 2116800000000000000000000001 c.played.result (omega arith) p in
    let sum : to_z w128
    (of_z w128
    (to_z w128 (of_z w128 c.source_at-first.result) +ℤ to_z w128 (of_z w128 c.played.result)))
    ≡ to_z w128 (of_z w128 c.source_at-first.result) +ℤ to_z w128 (of_z w128 c.played.result) =
    omega (arith, ints, f.low, f.high, p.low, p.high) in
    past_day_is
    (stated_job c.args.job.now) c.args.shown.now.shot c.args.shown.now.start c.args.part _ _ _ _ _ _
    c.requires.shown.shot c.both.ensures c.is_in_day.ensures c.is_in_day-2.ensures
    (first ∙ c.source_at-first.ensures.value
    ∙ ap₂ (λ (x y : ℤ). source_at (stated_job c.args.job.now) (clip_of c.args.shown.now.shot) x y) s t)
    sum
    (gone ∙ c.played.ensures.value ∙ ap₂ (λ (x y : ℤ). int_div_euclid (x *ℤ y) (pos 1000000)) n v)

use Rattle.std.proofs.Common.{◌≡◌, ◌∙◌, ap, ap₂, ℤ, pos, ◌+ℤ◌, ◌-ℤ◌, ◌*ℤ◌, to_z, of_z, arith}
use Rattle.std.specs.Int.{w128, w64}
use Rattle.std.proofs.lemmas.Int.{ints}
use Rattle.edl_conform.specs.Stated.{stated_job}
use Rattle.edl_conform.proofs.PartLemmas.{between_is}
use Rattle.edl_conform.proofs.clip_sides.is_between.Goals as goal

pub returns : goal.returns
returns c =
    let near = c.requires.shown.shot.near in
    let slow = c.requires.shown.shot.slow in
    let a = c.requires.part.at in
    let b = c.requires.shown.start in
    let s : to_z w128 (of_z w128 c.args.shown.now.shot.start) ≡ c.args.shown.now.shot.start =
    omega (arith, ints, near.low, near.high) in
    let v : to_z w64 (of_z w64 c.args.shown.now.shot.speed) ≡ c.args.shown.now.shot.speed =
    omega (arith, ints, slow.low, slow.high) in
    let u : to_z w128
    (of_z w128 (to_z w128 (of_z w128 c.args.part.at) -ℤ to_z w128 (of_z w128 c.args.shown.now.start)))
    ≡ c.args.part.at -ℤ c.args.shown.now.start = omega (arith, ints, a.low, a.high, b.low, b.high) in
    let p = c.product-run.ensures in
    let run : to_z w128 (of_z w128 c.product-run.result) ≡ c.product-run.result =
    omega (arith, ints, p.least, p.most) in
    let played = p.value ∙ ap₂ (λ (x y : ℤ). x *ℤ y) u v in
    let r : c.reached.result ≡ (c.args.shown.now.shot.start *ℤ pos 1000000) +ℤ c.product-run.result =
    c.reached.ensures ∙ ap₂ (λ (x y : ℤ). (x *ℤ pos 1000000) +ℤ y) s run in
    let back : to_z w128 (of_z w128 c.reached.result) ≡ c.reached.result =
    omega (arith, ints, r, near.low, near.high, p.least, p.most) in
    let is = c.args.job.now.ticks_are in
    let short = c.args.job.now.short in
    let f = c.frame_of.ensures.value in
    let frame : to_z w128 (of_z w128 c.frame_of.result) ≡ c.frame_of.result =
    omega (arith, ints, f, is, short) in
    between_is
    (stated_job c.args.job.now) c.args.shown.now.shot c.args.shown.now.start c.args.part _ _ _
    c.requires.shown.shot c.is_whole.ensures
    (back ∙ r ∙ ap (λ (y : ℤ). (c.args.shown.now.shot.start *ℤ pos 1000000) +ℤ y) played) (frame ∙ f)

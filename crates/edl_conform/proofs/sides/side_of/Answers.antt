use Rattle.std.proofs.Common.{◌≡◌, ◌∙◌, ap₂, ℤ, pos, ◌+ℤ◌, ◌*ℤ◌, to_z, of_z, arith}
use Rattle.std.specs.Int.{w128, w64, int_div_euclid}
use Rattle.std.proofs.lemmas.Int.{ints}
use Rattle.edl_frames.specs.Sides.{source_at}
use Rattle.edl_conform.specs.Stated.{stated_job}
use Rattle.edl_conform.specs.Shots.{clip_of}
use Rattle.edl_conform.proofs.MadeLemmas.{same_side}
use Rattle.edl_conform.proofs.sides.side_of.Goals as goal

pub returns : goal.returns
returns c =
    let shot = c.requires.shown.shot in
    let slow = shot.slow in
    let near = c.requires.shown.start in
    let a = c.requires.at in
    let n = c.requires.count in
    let start : to_z w128 (of_z w128 c.args.shown.now.start) ≡ c.args.shown.now.start =
    omega (arith, ints, near.low, near.high) in
    let at : to_z w128 (of_z w128 c.args.at) ≡ c.args.at = omega (arith, ints, a.low, a.high) in
    let count : to_z w128 (of_z w128 c.args.count) ≡ c.args.count =
    omega (arith, ints, n.low, n.high) in
    let v : to_z w64 (of_z w64 c.args.shown.now.shot.speed) ≡ c.args.shown.now.shot.speed =
    omega (arith, ints, slow.low, slow.high) in
    let f = c.source_at-first.ensures.range in
    let g = c.gone.ensures.range in
    let first : to_z w64 (of_z w64 (to_z w128 (of_z w128 c.source_at-first.result)))
    ≡ c.source_at-first.result = omega (arith, ints, f.low, f.high) in
    let sum : to_z w64
    (of_z w64
    (to_z w128
    (of_z w128
    (to_z w128 (of_z w128 c.source_at-first.result) +ℤ to_z w128 (of_z w128 c.gone.result)))))
    ≡ c.source_at-first.result +ℤ c.gone.result =
    omega (arith, ints, f.low, f.high, g.low, g.high) in
    let source =
    c.source_at-first.ensures.value
    ∙ ap₂ (λ (x y : ℤ). source_at (stated_job c.args.job.now)
    (clip_of c.args.shown.now.shot) x y) start at in
    let more =
    c.gone.ensures.value
    ∙ ap₂ (λ (x y : ℤ). int_div_euclid (x *ℤ y) (pos 1000000)) count (v ∙ shot.speed) in
    same_side _ _ _ _ _ _ _ _ _ _ c.in_ok-reel.ensures c.in_ok-name_of.ensures (first ∙ source)
    (sum ∙ ap₂ (λ (x y : ℤ). x +ℤ y) source more) c.speed_of.ensures

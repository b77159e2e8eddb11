use Rattle.std.proofs.Common.{◌≡◌, ◌∙◌, sym, subst, ap₂, ℤ, pos, ◌+ℤ◌, ◌-ℤ◌, ◌*ℤ◌, to_z, of_z, arith}
use Rattle.std.specs.Int.{w128, w64, int_div_euclid}
use Rattle.std.specs.Option.{option_copied}
use Rattle.std.proofs.lemmas.Int.{ints}
use Rattle.edl_frames.specs.Sides.{source_at}
use Rattle.edl_frames.specs.ChildReasons.{is_outside_row}
use Rattle.edl_conform.specs.Stated.{stated_job}
use Rattle.edl_conform.specs.Shots.{clip_of, stated_part}
use Rattle.edl_conform.proofs.CastLemmas.{kept}
use Rattle.edl_conform.proofs.PartLemmas.{outside_is}
use Rattle.edl_conform.proofs.clip_sides.is_outside.Goals as goal

pub returns-in-Some : goal.returns-in-Some
returns-in-Some c =
    let slow = c.requires.shown.shot.slow in
    let a = c.requires.part.at in
    let b = c.requires.shown.start in
    let d = c.requires.part.frames in
    let s : to_z w128 (of_z w128 c.args.shown.now.start) ≡ c.args.shown.now.start =
    omega (arith, ints, b.low, b.high) in
    let t : to_z w128 (of_z w128 c.args.part.at) ≡ c.args.part.at =
    omega (arith, ints, a.low, a.high) in
    let n : to_z w128 (of_z w128 (to_z w128 (of_z w128 c.args.part.frames) -ℤ pos 1))
    ≡ c.args.part.frames -ℤ pos 1 = omega (arith, ints, d.low, d.high) in
    let v : to_z w64 (of_z w64 c.args.shown.now.shot.speed) ≡ c.args.shown.now.shot.speed =
    omega (arith, ints, slow.low, slow.high) in
    let f = c.source_at-first.ensures.range in
    let p = c.played.ensures.range in
    let first = kept 1000000000000 c.source_at-first.result (omega arith) f in
    let gone = kept 2116800000000000000000000001 c.played.result (omega arith) p in
    let sum : to_z w128
    (of_z w128
    (to_z w128 (of_z w128 c.source_at-first.result) +ℤ to_z w128 (of_z w128 c.played.result)))
    ≡ to_z w128 (of_z w128 c.source_at-first.result) +ℤ to_z w128 (of_z w128 c.played.result) =
    omega (arith, ints, f.low, f.high, p.low, p.high) in
    subst (λ o. c.is_row_outside.result
    ≡ is_outside_row (stated_job c.args.job.now) (clip_of c.args.shown.now.shot) c.args.shown.now.start
    (option_copied o) (stated_part c.args.part)) (sym c.in-Some.is)
    (outside_is
    (stated_job c.args.job.now) c.args.shown.now.shot c.args.shown.now.start c.in-Some.row.now c.args.part
    _ _ _ _ c.requires.shown.shot c.is_row_outside.ensures
    (first ∙ c.source_at-first.ensures.value
    ∙ ap₂ (λ (x y : ℤ). source_at (stated_job c.args.job.now) (clip_of c.args.shown.now.shot) x y) s t)
    sum
    (gone ∙ c.played.ensures.value ∙ ap₂ (λ (x y : ℤ). int_div_euclid (x *ℤ y) (pos 1000000)) n v))

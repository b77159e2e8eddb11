use Rattle.std.proofs.Common.{◌≡◌, ◌∙◌, sym, ap, ap₂, ℤ, ◌-ℤ◌, to_z, of_z, arith}
use Rattle.std.specs.Int.{w128}
use Rattle.std.proofs.lemmas.Int.{ints}
use Rattle.edl_frames.specs.Jobs.{frames_in}
use Rattle.edl_frames.specs.Sides.{side_of, black_side}
use Rattle.edl_conform.specs.Stated.{stated_job}
use Rattle.edl_conform.specs.Shots.{clip_of}
use Rattle.edl_conform.specs.Drafts.{side_in}
use Rattle.edl_conform.proofs.CastLemmas.{kept}
use Rattle.edl_conform.proofs.MadeLemmas.{ok_as}
use Rattle.edl_conform.proofs.event_of_child.side_in.Goals as goal

pub returns-in-Some : goal.returns-in-Some
returns-in-Some c =
    let j = stated_job c.args.job.now in
    let a = c.requires.begin in
    let b = c.requires.end in
    let begin : to_z w128 (of_z w128 c.args.begin) ≡ c.args.begin =
    omega (arith, ints, a.low, a.high) in
    let u : to_z w128
    (of_z w128 (to_z w128 (of_z w128 c.args.end) -ℤ to_z w128 (of_z w128 c.args.begin)))
    ≡ c.args.end -ℤ c.args.begin = omega (arith, ints, a.low, a.high, b.low, b.high) in
    let r = kept 1000000000000 c.frames_in-count.result
    (omega arith) c.frames_in-count.ensures.range in
    let n = r ∙ c.frames_in-count.ensures.value ∙ ap (frames_in j) u in
    ok_as c.side_of.result _ _
    (ap₂ (λ (x y : ℤ). side_of j (clip_of c.in-Some.shown.shot) c.in-Some.shown.start x y) begin n
    ∙ ap (λ o. side_in j o c.args.begin c.args.end) (sym c.in-Some.is))
    c.side_of.ensures

pub returns-in-None : goal.returns-in-None
returns-in-None c =
    let j = stated_job c.args.job.now in
    let a = c.requires.begin in
    let b = c.requires.end in
    let u : to_z w128
    (of_z w128 (to_z w128 (of_z w128 c.args.end) -ℤ to_z w128 (of_z w128 c.args.begin)))
    ≡ c.args.end -ℤ c.args.begin = omega (arith, ints, a.low, a.high, b.low, b.high) in
    let r = kept 1000000000000 c.frames_in-count.result
    (omega arith) c.frames_in-count.ensures.range in
    let n = r ∙ c.frames_in-count.ensures.value ∙ ap (frames_in j) u in
    c.black_side.ensures ∙ ap black_side n
    ∙ ap (λ o. side_in j o c.args.begin c.args.end) (sym c.in-None.is)

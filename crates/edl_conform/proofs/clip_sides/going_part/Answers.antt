use Rattle.std.proofs.Common.{◌≡◌, ◌∙◌, ap, ◌-ℤ◌, to_z, of_z, arith}
use Rattle.std.specs.Int.{w128}
use Rattle.std.proofs.lemmas.Int.{ints}
use Rattle.edl_frames.specs.Jobs.{frames_in}
use Rattle.edl_conform.specs.Stated.{stated_job, stated_lap}
use Rattle.edl_conform.proofs.CastLemmas.{kept}
use Rattle.edl_conform.proofs.PartLemmas.{going_is}
use Rattle.edl_conform.proofs.clip_sides.going_part.Goals as goal

pub returns-clause-part : goal.returns-clause-part
returns-clause-part c =
    let a = c.requires.begin in
    let b = c.requires.end in
    let begin : to_z w128 (of_z w128 c.args.lap.begin) ≡ c.args.lap.begin =
    omega (arith, ints, a.low, a.high) in
    let u : to_z w128
    (of_z w128 (to_z w128 (of_z w128 c.args.lap.end) -ℤ to_z w128 (of_z w128 c.args.lap.begin)))
    ≡ c.args.lap.end -ℤ c.args.lap.begin = omega (arith, ints, a.low, a.high, b.low, b.high) in
    let r = kept 1000000000000 c.frames_in.result (omega arith) c.frames_in.ensures.range in
    going_is (stated_job c.args.job.now) (stated_lap c.args.lap) _ _ begin
    (r ∙ c.frames_in.ensures.value ∙ ap (frames_in (stated_job c.args.job.now)) u)

use Rattle.std.proofs.Common.{◌≡◌, ◌∙◌, ap, ◌-ℤ◌, ◌<ℤ◌, to_z, of_z, arith}
use Rattle.std.specs.Int.{w128}
use Rattle.std.proofs.lemmas.Int.{ints}
use Rattle.edl_frames.specs.Jobs.{frames_in}
use Rattle.edl_conform.specs.Stated.{stated_job}
use Rattle.edl_conform.proofs.CastLemmas.{kept, is_int_lt}
use Rattle.edl_conform.proofs.PartLemmas.{part_is}
use Rattle.edl_conform.proofs.clip_sides.event_part.Goals as goal

pub returns-then-begin-end-clause-part : goal.returns-then-begin-end-clause-part
returns-then-begin-end-clause-part c =
    let a = c.requires.begin in
    let b = c.requires.end in
    let e = c.if-begin-end.true in
    let less : c.args.begin <ℤ c.args.end = omega (arith, ints, e, a.low, a.high, b.low, b.high) in
    let begin : to_z w128 (of_z w128 c.args.begin) ≡ c.args.begin =
    omega (arith, ints, a.low, a.high) in
    let u : to_z w128
    (of_z w128 (to_z w128 (of_z w128 c.args.end) -ℤ to_z w128 (of_z w128 c.args.begin)))
    ≡ c.args.end -ℤ c.args.begin = omega (arith, ints, a.low, a.high, b.low, b.high) in
    let r = kept 1000000000000 c.frames_in-frames.result
    (omega arith) c.frames_in-frames.ensures.range in
    part_is (stated_job c.args.job.now) c.args.begin c.args.end _ _ (is_int_lt _ _ less) begin
    (r ∙ c.frames_in-frames.ensures.value ∙ ap (frames_in (stated_job c.args.job.now)) u)

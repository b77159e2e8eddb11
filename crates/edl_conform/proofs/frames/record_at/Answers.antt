use Rattle.std.proofs.Common.{◌≡◌, ◌∙◌, ap, ℤ, ◌+ℤ◌, to_z, of_z, arith}
use Rattle.std.specs.Int.{w128}
use Rattle.std.proofs.lemmas.Int.{ints}
use Rattle.edl_frames.specs.Jobs.{frames_in}
use Rattle.edl_conform.specs.Stated.{stated_job}
use Rattle.edl_conform.proofs.frames.record_at.Goals as goal

pub returns-clause-value : goal.returns-clause-value
returns-clause-value c =
    let n = c.requires in
    let t : to_z w128 (of_z w128 c.args.ticks) ≡ c.args.ticks =
    omega (arith, ints, n.low, n.high) in
    let v = c.frames_in.ensures.value ∙ ap (frames_in (stated_job c.args.job.now)) t in
    let r = c.frames_in.ensures.range in
    let l = c.args.job.now.low in
    let h = c.args.job.now.high in
    let s : to_z w128
    (of_z w128
    (to_z w128 (of_z w128 c.args.job.now.first) +ℤ to_z w128 (of_z w128 c.frames_in.result)))
    ≡ c.args.job.now.first +ℤ c.frames_in.result = omega (arith, ints, r.low, r.high, l, h) in
    s ∙ ap (λ (x : ℤ). c.args.job.now.first +ℤ x) v

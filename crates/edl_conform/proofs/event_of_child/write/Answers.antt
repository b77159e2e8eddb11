use Rattle.std.proofs.Common.{◌≡◌, ◌∙◌, ap, ap₂, ℤ, to_z, of_z, arith}
use Rattle.std.specs.Int.{w128, w64}
use Rattle.std.proofs.lemmas.Int.{ints}
use Rattle.edl_frames.specs.Jobs.{record_at}
use Rattle.edl_conform.specs.Stated.{stated_job}
use Rattle.edl_conform.specs.Drafts.{side_in}
use Rattle.edl_conform.proofs.MadeLemmas.{same_event}
use Rattle.edl_conform.proofs.event_of_child.write.Goals as goal

pub returns : goal.returns
returns c =
    let j = stated_job c.args.job.now in
    let a = c.requires.draft.begin in
    let b = c.requires.draft.end in
    let begin : to_z w128 (of_z w128 c.args.draft.begin) ≡ c.args.draft.begin =
    omega (arith, ints, a.low, a.high) in
    let end : to_z w128 (of_z w128 c.args.draft.end) ≡ c.args.draft.end =
    omega (arith, ints, b.low, b.high) in
    let f = c.record_at.ensures.range in
    let g = c.record_at-2.ensures.range in
    let from : to_z w64 (of_z w64 (to_z w128 (of_z w128 c.record_at.result))) ≡ c.record_at.result =
    omega (arith, ints, f.low, f.high) in
    let to : to_z w64 (of_z w64 (to_z w128 (of_z w128 c.record_at-2.result)))
    ≡ c.record_at-2.result = omega (arith, ints, g.low, g.high) in
    same_event c.args.channel _ _ _ _ _ _ _ _
    (c.in_ok-to.ensures
    ∙ ap₂ (λ (x y : ℤ). side_in j c.args.draft.shown x y) begin end) c.in_ok-cross.ensures
    (from ∙ c.record_at.ensures.value ∙ ap (record_at j) begin)
    (to ∙ c.record_at-2.ensures.value ∙ ap (record_at j) end)

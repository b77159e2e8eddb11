use Rattle.std.proofs.Common.{◌≡◌, ◌∙◌, ap, ap₂, not, ◌&&◌, Bool, to_z, of_z, arith}
use Rattle.std.specs.Int.{w128}
use Rattle.std.proofs.lemmas.Int.{ints}
use Rattle.edl_frames.specs.Jobs.{is_in_day, record_at}
use Rattle.edl_frames.specs.ChildReasons.{is_past_record}
use Rattle.edl_conform.specs.Stated.{stated_job}
use Rattle.edl_conform.proofs.CastLemmas.{kept}
use Rattle.edl_conform.proofs.child_reasons.is_past_record.Goals as goal

pub returns-in-Some : goal.returns-in-Some
returns-in-Some c = λ k.
    let j = stated_job c.args.job.now in
    let near = c.in-Some.ensures.range in
    let a = near.begin in
    let b = near.end in
    let begin : to_z w128 (of_z w128 c.in-Some.draft.begin) ≡ c.in-Some.draft.begin =
    omega (arith, ints, a.low, a.high) in
    let end : to_z w128 (of_z w128 c.in-Some.draft.end) ≡ c.in-Some.draft.end =
    omega (arith, ints, b.low, b.high) in
    let f = kept 2000000000000000000 c.record_at-begin.result
    (omega arith) c.record_at-begin.ensures.range in
    let g = kept 2000000000000000000 c.record_at-end.result
    (omega arith) c.record_at-end.ensures.range in
    ap not (c.both.ensures ∙ ap₂ (λ (x y : Bool). x && y)
    (c.is_in_day.ensures
    ∙ ap (is_in_day j) (f ∙ c.record_at-begin.ensures.value ∙ ap (record_at j) begin))
    (c.is_in_day-in-Some.ensures
    ∙ ap (is_in_day j) (g ∙ c.record_at-end.ensures.value ∙ ap (record_at j) end)))
    ∙ ap (is_past_record j) (c.in-Some.ensures.draft j k)

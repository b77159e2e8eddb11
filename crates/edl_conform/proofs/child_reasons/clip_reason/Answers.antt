use Rattle.std.proofs.Common.{◌∙◌, sym, subst, ap, not, ◌||◌}
use Rattle.coord.specs.Keys.{media_rate}
use Rattle.edl_frames.specs.ChildReasons.{has_rate, row_differs, parts_of}
use Rattle.edl_conform.specs.Stated.{stated_job, stated_seat}
use Rattle.edl_conform.specs.Shots.{clip_of}
use Rattle.edl_conform.specs.Drafts.{IsTested}
use Rattle.edl_conform.proofs.JudgeLemmas.{clip_reason_is}
use Rattle.edl_conform.proofs.child_reasons.clip_reason.Goals as goal

pub returns : goal.returns
returns c =
    let row = c.row_of-row.ensures.row in
    let j = stated_job c.args.job.now in
    let clip = clip_of c.args.shot.now in
    let rates = ap (λ r. not (has_rate j (media_rate clip)) || row_differs j r) row in
    clip_reason_is j (stated_seat c.args.seat.now) clip c.test_clip.result _
    (sym c.has_other_effect.ensures ∙ c.if-has_other_effect.false)
    (sym c.has_no_tenths.ensures ∙ c.if-has_no_tenths.false)
    (sym c.has_no_reel.ensures ∙ c.if-has_no_reel.false)
    (sym (c.rate_differs.ensures ∙ rates) ∙ c.if-rate_differs.false)
    (subst (λ r. IsTested j clip c.args.seat.now.start r
    (parts_of j (stated_seat c.args.seat.now)) c.test_clip.result) row c.test_clip.ensures)
    c.source_reason.ensures

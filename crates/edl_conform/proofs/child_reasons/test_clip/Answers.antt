use Rattle.std.proofs.Common.{◌≡◌, ◌∙◌, subst, to_z, of_z, arith}
use Rattle.std.specs.Int.{w128}
use Rattle.std.specs.Option.{option_copied}
use Rattle.std.proofs.lemmas.Int.{ints}
use Rattle.edl_conform.specs.Stated.{stated_job, stated_seat}
use Rattle.edl_conform.specs.Shots.{clip_of}
use Rattle.edl_conform.specs.Drafts.{IsTested}
use Rattle.edl_conform.proofs.CastLemmas.{kept}
use Rattle.edl_conform.proofs.PartLemmas.{tested_at}
use Rattle.edl_conform.proofs.JudgeLemmas.{parts_by, stands_near}
use Rattle.edl_conform.proofs.child_reasons.test_clip.Goals as goal

pub returns : goal.returns
returns c =
    let near = (stands_near c.args.seat.now c.requires.seated).start in
    let start : to_z w128 (of_z w128 c.args.seat.now.start) ≡ c.args.seat.now.start =
    omega (arith, ints, near.low, near.high) in
    let b = kept 1411200000000000000000000 c.begin_of.result
    (omega arith) c.begin_of.ensures.range in
    let e = kept 1411200000000000000000000 c.end_of.result (omega arith) c.end_of.ensures.range in
    let parts = parts_by (stated_job c.args.job.now) (stated_seat c.args.seat.now) _ _ _ _ _
    (b ∙ c.begin_of.ensures.value)
    (e ∙ c.end_of.ensures.value) c.requires.behind
    c.event_part-event.ensures.part c.lap_part.ensures.part in
    subst (λ l. IsTested (stated_job c.args.job.now) (clip_of c.args.shot.now) c.args.seat.now.start
    (option_copied c.args.row) l c.test_parts.result) parts
    (tested_at _ _ c.args.seat.now.start _ _ _ _ start c.test_parts.ensures)

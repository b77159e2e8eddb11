use Rattle.std.proofs.Common.{refl, w64}
use Rattle.std.proofs.lemmas.Int.{to_z-of_z}
use Rattle.media_list.proofs.SpanLemmas.{frame_fits}
use Rattle.ale_text.proofs.RowLemmas.{has_taken, in_order, says_nothing}
use Rattle.ale_text.proofs.rows.take_of.Goals as goal

pub returns-then-is_one_empty-clause-said : goal.returns-then-is_one_empty-clause-said
returns-then-is_one_empty-clause-said c =
    says_nothing c.args.rate c.args.columns c.args.line.now c.field_at-start.result.now
    c.field_at-end.result.now c.field_at-start.ensures c.field_at-end.ensures
    (c.if-is_one_empty.ensures.0 refl)

pub returns-in-Some-frame_of_label-2-clause-said : goal.returns-in-Some-frame_of_label-2-clause-said
returns-in-Some-frame_of_label-2-clause-said c =
    let a = c.in-Some-frame_of_label.start in
    let b = c.in-Some-frame_of_label-2.end in
    has_taken c.args.rate c.args.columns c.args.line.now _ c.field_at.result.now
    c.field_at-start.result.now c.field_at-end.result.now a b c.field_at.ensures
    c.in-Some.ensures.0 c.in-Some.ensures.1 c.field_at-start.ensures
    c.in-Some-frame_of_label.ensures.frame
    (to_z-of_z w64 a (frame_fits a c.in-Some-frame_of_label.ensures.bound)) c.field_at-end.ensures
    c.in-Some-frame_of_label-2.ensures.frame
    (to_z-of_z w64 b (frame_fits b c.in-Some-frame_of_label-2.ensures.bound))
    (in_order a b (frame_fits a c.in-Some-frame_of_label.ensures.bound)
    (frame_fits b c.in-Some-frame_of_label-2.ensures.bound) c.if-start-end.true)

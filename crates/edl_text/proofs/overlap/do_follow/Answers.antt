use Rattle.std.proofs.Common.{sym, ◌∙◌, w64, FitsSigned, rules, arith}
use Rattle.std.proofs.lemmas.Bool.{false≢true}
use Rattle.std.proofs.lemmas.Int.{to_z-of_z}
use Rattle.edl_text.proofs.FollowSteps.{follow_more, follow_other, not_before}
use Rattle.edl_text.proofs.overlap.do_follow.Goals as goal
use Rattle.edl_text.proofs.overlap.do_follow.Goals.{then-is_on+else-begins_before, else-is_on}

pub events-preserved : goal.events-preserved
events-preserved c = λ read. elim c.if-is_on.branch [
  | then-is_on+else-begins_before w ↦ (
      let fits : FitsSigned w64 w.end_of-end.result = search rules in
      let end = w.end-is ∙ to_z-of_z w64 w.end_of-end.result fits ∙ w.end_of-end.ensures in
      let behind = not_before _ _ _ w.if-begins_before.false w.begins_before.ensures in
      follow_more _ _ c.args.channel c.args.events.now c.events.event-index c.event-item.result read
      (omega arith) (sym c.event-item.is) end behind (c.events.invariant read))
  | else-is_on w ↦ follow_other _ _ c.args.channel c.args.events.now c.events.event-index
      c.event-item.result (omega arith) (sym c.event-item.is) w.end-is
      (λ h. false≢true (w.if-is_on.ensures.1 h)) (c.events.invariant read)
]

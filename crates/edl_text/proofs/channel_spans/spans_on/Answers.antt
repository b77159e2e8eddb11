use Rattle.std.proofs.Common.{sym, ap, subst, arith, ◌∙◌}
use Rattle.std.proofs.lemmas.Bool.{false≢true}
use Rattle.std.proofs.lemmas.List.{take_all}
use Rattle.edl_text.specs.StateSpans.{HasSpans}
use Rattle.edl_text.proofs.TurnSteps.{spans_more, spans_other}
use Rattle.edl_text.proofs.channel_spans.spans_on.Goals as goal
use Rattle.edl_text.proofs.channel_spans.spans_on.Goals.{then-is_on+in_ok-push, else-is_on}

pub events-preserved : goal.events-preserved
events-preserved c = elim c.if-is_on.branch [
  | then-is_on+in_ok-push w ↦ spans_more c.args.channel c.args.events.now c.events.event-index
      c.event-item.result c.events.spans.items c.if-is_on.spans.items w.span_of.result
      c.events-test.true (sym c.event-item.is)
      (ap (λ v. v.items) w.spans-is ∙ w.in_ok-push.ensures.items) w.span_of.ensures c.events.invariant
  | else-is_on w ↦ spans_other c.args.channel c.args.events.now c.events.event-index
      c.event-item.result c.events.spans.items c.if-is_on.spans.items c.events-test.true
      (sym c.event-item.is) (ap (λ v. v.items) w.spans-is)
      (λ h. false≢true (w.if-is_on.ensures.1 h)) c.events.invariant
]

pub returns : goal.returns
returns c =
    let all = take_all c.events.event-index c.args.events.now (omega (arith, c.events-test.false)) in
    subst (λ l. HasSpans c.args.channel l c.events.spans.items) all c.events.invariant

use Rattle.std.proofs.Common.{sym, refl, arith}
use Rattle.std.proofs.lemmas.Bool.{false≢true}
use Rattle.edl_text.proofs.Finding.{finds}
use Rattle.edl_text.proofs.SpanSteps.{step_more, step_other}
use Rattle.edl_text.proofs.overlap.search_on.Goals as goal
use Rattle.edl_text.proofs.overlap.search_on.Goals.{then-is_on+else-meets+in_ok-keep, else-is_on}

pub returns-then-meets : goal.returns-then-meets
returns-then-meets c = λ read.
    let kept = c.events.invariant read in
    finds c.events.spans c.args.channel c.args.events.now c.events.event-index c.event-item.result read (omega arith) (sym c.event-item.is) (c.if-is_on.ensures.0 refl) kept (c.if-meets.ensures kept.spans_apart)

pub events-preserved : goal.events-preserved
events-preserved c = λ read. elim c.if-is_on.branch [
  | then-is_on+else-meets+in_ok-keep w ↦ (
      let kept = c.events.invariant read in
      step_more c.events.spans w.keep.new.spans c.if-is_on.spans c.args.channel c.args.events.now c.events.event-index c.event-item.result read (omega arith) (sym c.event-item.is) w.spans-is (w.if-is_on.ensures.0 refl) (w.if-meets.ensures kept.spans_apart) w.in_ok-keep.ensures kept)
  | else-is_on w ↦ step_other c.events.spans c.if-is_on.spans c.args.channel c.args.events.now c.events.event-index c.event-item.result (omega arith) (sym c.event-item.is) w.spans-is (λ h. false≢true (w.if-is_on.ensures.1 h)) (c.events.invariant read)
]

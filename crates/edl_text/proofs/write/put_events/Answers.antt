use Rattle.std.proofs.Common.{arith}
use Rattle.dev_io.proofs.BufferLemmas.{puts_then, puts_as}
use Rattle.edl_text.proofs.Texts.{lines_more}
use Rattle.edl_text.proofs.write.put_events.Goals as goal

pub loop-event-preserved : goal.loop-event-preserved
loop-event-preserved g c =
    let i = c.loop-event.invariant in
    record {
      next = omega arith;
      put = puts_as _ (puts_then i.put c.put_event.ensures) (lines_more c.args.style.rate c.args.style.drop c.args.style.layout c.args.events.now c.loop-event.event-index c.loop-event.number c.event-item.result i.next (omega arith) c.event-item.is);
    }

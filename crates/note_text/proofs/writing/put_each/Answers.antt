use Rattle.std.proofs.Common.{arith}
use Rattle.dev_io.proofs.BufferLemmas.{puts_then, puts_as}
use Rattle.note_text.proofs.NotedPieces.{noted_more}
use Rattle.note_text.proofs.writing.put_each.Goals as goal

pub events-preserved : goal.events-preserved
events-preserved g c =
    let i = c.events.invariant in
    record {
      next = omega arith;
      put = puts_as _ (puts_then i.put (puts_then c.put_event.ensures c.put_own.ensures))
          (noted_more c.args.style.rate c.args.style.drop c.args.style.layout c.args.events.now c.events.index c.events.number c.index-events-index.result c.args.notes.now i.next c.events-test.true c.index-events-index.is);
    }

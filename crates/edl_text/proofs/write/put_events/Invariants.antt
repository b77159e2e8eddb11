use Rattle.std.proofs.Common.{◌≡◌, ◌+◌, take}
use Rattle.dev_io.specs.Buffer.{standing, Puts}
use Rattle.edl_text.specs.Spelling.{text_of, lines_from}
use Rattle.edl_text.proofs.write.put_events.Given as goal

-- the events so far were handed over, numbered from 1
abbrev pub invariant-loop-event : goal.invariant-loop-event
invariant-loop-event g l =
    let out = g.W.Out in
    record {
      next : l.number ≡ l.event-index + 1;
      put : Puts (standing out.known out.faults l.fn.out l.fn.buffer) (standing out.known out.faults l.out l.buffer) (text_of (lines_from l.style.rate l.style.drop l.style.layout 1 (take l.event-index l.events)));
    }

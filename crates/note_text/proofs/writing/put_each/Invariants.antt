use Rattle.std.proofs.Common.{◌≡◌, ◌+◌, take}
use Rattle.dev_io.specs.Buffer.{standing, Puts}
use Rattle.edl_text.specs.Spelling.{text_of}
use Rattle.note_text.specs.NotedSpelling.{noted_lines_from}
use Rattle.note_text.proofs.writing.put_each.Given as goal

-- the events so far were handed over with their notes, numbered from 1
abbrev pub invariant-events : goal.invariant-events
invariant-events g l =
    let out = g.W.Out in
    record {
      next : l.number ≡ l.index + 1;
      put : Puts (standing out.known out.faults l.fn.out l.fn.buffer) (standing out.known out.faults l.out l.buffer) (text_of (noted_lines_from l.style.rate l.style.drop l.style.layout 0 (take l.index l.events) l.notes));
    }

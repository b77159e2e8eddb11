use Rattle.std.proofs.Common.{take}
use Rattle.dev_io.specs.Buffer.{standing, Puts}
use Rattle.edl_text.specs.Spelling.{text_of}
use Rattle.note_text.specs.NotedSpelling.{own_lines}
use Rattle.note_text.proofs.writing.put_own.Given as goal

-- the notes of the event so far were handed over
abbrev pub invariant-notes : goal.invariant-notes
invariant-notes g l =
    let out = g.W.Out in
    Puts (standing out.known out.faults l.fn.out l.fn.buffer) (standing out.known out.faults l.out l.buffer)
    (text_of (own_lines l.style.rate l.style.drop l.index (take l.note-index l.notes)))

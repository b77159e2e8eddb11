use Rattle.dev_io.proofs.BufferLemmas.{puts_then, puts_as}
use Rattle.note_text.proofs.NotedPieces.{own_more, own_same}
use Rattle.note_text.proofs.writing.put_own.Goals.{then-note-index, else-note-index}
use Rattle.note_text.proofs.writing.put_own.Goals as goal

pub notes-preserved : goal.notes-preserved
notes-preserved g c =
    let rate = c.args.style.rate in
    let drop = c.args.style.drop in
    elim c.if-note-index.branch [
      | then-note-index w ↦
          rw (w.buffer-is, w.out-is)
          (puts_as _ (puts_then c.notes.invariant w.put_note.ensures)
          (own_more rate drop c.args.index c.args.notes.now c.notes.note-index c.note-item.result c.notes-test.true c.note-item.is w.if-note-index.true))
      | else-note-index w ↦
          rw (w.buffer-is, w.out-is)
          (puts_as _ c.notes.invariant
          (own_same rate drop c.args.index c.args.notes.now c.notes.note-index c.note-item.result c.notes-test.true c.note-item.is w.if-note-index.false))
    ]

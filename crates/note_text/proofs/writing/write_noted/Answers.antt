use Rattle.std.proofs.Common.{sym}
use Rattle.dev_io.specs.Buffer.{standing, Puts}
use Rattle.dev_io.proofs.BufferLemmas.{puts_then, puts_as, flush_told}
use Rattle.edl_list.specs.Layouts.{layout_of}
use Rattle.edl_text.specs.Spelling.{head_lines, text_of}
use Rattle.edl_text.proofs.Texts.{text_append}
use Rattle.note_text.specs.NotedSpelling.{noted_lines_from}
use Rattle.note_text.proofs.writing.write_noted.Goals.{then-are_in_order, else-are_in_order}
use Rattle.note_text.proofs.writing.write_noted.Goals as goal

pub returns-clause-told : goal.returns-clause-told
returns-clause-told g c =
    let list = c.args.list.now in
    let out = g.W.Out in
    let lines = noted_lines_from list.rate c.args.drop (layout_of c.args.wide) 0 list.events c.args.notes.now in
    let put : Puts (standing out.known out.faults c.put_head.new.out c.put_head.new.buffer) (standing out.known out.faults c.if-are_in_order.out c.if-are_in_order.buffer) (text_of lines) =
    elim c.if-are_in_order.branch [
      | then-are_in_order w ↦ rw (w.out-is, w.buffer-is) (rw (c.as_slice-events.ensures, c.as_slice-notes.ensures, c.of.ensures) at w.put_in_order.ensures)
      | else-are_in_order w ↦ rw (w.out-is, w.buffer-is) (rw (c.as_slice-events.ensures, c.as_slice-notes.ensures, c.of.ensures) at w.put_each.ensures)
    ] in
    flush_told c.new-buffer.ensures.held c.new-buffer.ensures.failed (puts_as _ (puts_then c.put_head.ensures put) (sym (text_append (head_lines list c.args.drop) lines))) c.flush.ensures.sent

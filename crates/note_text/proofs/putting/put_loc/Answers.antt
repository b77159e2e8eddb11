use Rattle.std.proofs.Common.{codes, ◌++◌, ◌∙◌, ap}
use Rattle.dev_io.proofs.BufferLemmas.{puts_then, puts_as}
use Rattle.note_text.proofs.PutNotes.{named, unnamed}
use Rattle.note_text.proofs.putting.put_loc.Goals.{then-not-is_empty, else-not-is_empty}
use Rattle.note_text.proofs.putting.put_loc.Goals as goal

pub returns : goal.returns
returns g c =
    let color = rw (c.as_bytes-color.ensures.value ∙ c.as_str.ensures) at c.put-4.ensures in
    let text = rw (c.as_bytes.ensures.value ∙ c.as_str-2.ensures) at c.trim_written-name.ensures in
    elim c.if-not-is_empty.branch [
      | then-not-is_empty w ↦
          let width = rw (c.as_bytes-color.ensures.value ∙ c.as_str.ensures) at w.padding.ensures in
          let end = rw (w.buffer-is, w.out-is) at c.put-5.ensures in
          puts_as _
          (puts_then c.put.ensures (puts_then c.put-2.ensures (puts_then c.put-3.ensures (puts_then color
          (puts_then w.put-then-not-is_empty.ensures (puts_then w.put-then-not-is_empty-2.ensures (puts_then w.put_written.ensures end)))))))
          (ap (λ l. codes "* LOC: " ++ l) (named c.args.label.now c.args.color.now _ c.trim_written-name.result.now c.args.name.now text w.if-not-is_empty.ensures width))
      | else-not-is_empty w ↦
          let end = rw (w.buffer-is, w.out-is) at c.put-5.ensures in
          puts_as _
          (puts_then c.put.ensures (puts_then c.put-2.ensures (puts_then c.put-3.ensures (puts_then color end))))
          (ap (λ l. codes "* LOC: " ++ l) (unnamed c.args.label.now c.args.color.now c.trim_written-name.result.now c.args.name.now text w.if-not-is_empty.ensures))
    ]

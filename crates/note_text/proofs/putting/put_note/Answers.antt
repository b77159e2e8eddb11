use Rattle.std.proofs.Common.{codes, ◌++◌, ◌∙◌, ap, ◌∷◌, []}
use Rattle.dev_io.proofs.BufferLemmas.{puts_then, puts_as}
use Rattle.note_text.specs.NotedSpelling.{triple_text}
use Rattle.note_text.proofs.PutNotes.{joined}
use Rattle.note_text.proofs.putting.put_note.Goals as goal

pub returns-in-Sop : goal.returns-in-Sop
returns-in-Sop g c =
    let s = rw c.get.ensures at c.put_triple.ensures in
    let o = rw c.get-in-Sop.ensures at c.put_triple-in-Sop.ensures in
    let p = rw c.get-in-Sop-2.ensures at c.put_triple-in-Sop-2.ensures in
    rw c.in-Sop.is
    (puts_as _ (puts_then c.put.ensures (puts_then s (puts_then o (puts_then p c.put-in-Sop.ensures))))
    (ap (λ l. codes "* ASC_SOP: " ++ l) (joined (triple_text c.in-Sop.slope) (triple_text c.in-Sop.offset) (triple_text c.in-Sop.power) (10 ∷ []))))

pub returns-in-Sat : goal.returns-in-Sat
returns-in-Sat g c =
    let numeral = rw (c.as_bytes.ensures.value ∙ c.as_str.ensures) at c.put-in-Sat-2.ensures in
    rw c.in-Sat.is (puts_then c.put-in-Sat.ensures (puts_then numeral c.put-in-Sat-3.ensures))

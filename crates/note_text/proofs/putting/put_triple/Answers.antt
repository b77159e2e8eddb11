use Rattle.std.proofs.Common.{◌∙◌}
use Rattle.dev_io.proofs.BufferLemmas.{puts_then}
use Rattle.note_text.proofs.putting.put_triple.Goals as goal

pub returns : goal.returns
returns g c =
    let r = rw (c.as_bytes.ensures.value ∙ c.as_str.ensures) at c.put-2.ensures in
    let green = rw (c.as_bytes-2.ensures.value ∙ c.as_str-2.ensures) at c.put-4.ensures in
    let b = rw (c.as_bytes-3.ensures.value ∙ c.as_str-3.ensures) at c.put-6.ensures in
    puts_then c.put.ensures (puts_then r (puts_then c.put-3.ensures (puts_then green (puts_then c.put-5.ensures (puts_then b c.put-7.ensures)))))

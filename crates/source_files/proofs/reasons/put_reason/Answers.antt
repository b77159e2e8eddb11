use Rattle.dev_io.proofs.BufferLemmas.{puts_then}
use Rattle.source_files.proofs.reasons.put_reason.Goals as goal

pub returns : goal.returns
returns g c =
    puts_then c.put.ensures (puts_then (rw c.as_bytes.ensures.value at c.put-2.ensures)
    (puts_then c.put-3.ensures
    (puts_then (rw c.as_bytes-2.ensures.value at c.put-4.ensures)
    (puts_then c.put_detail.ensures c.put-5.ensures))))

use Rattle.dev_io.proofs.BufferLemmas.{puts_then}
use Rattle.source_files.proofs.reasons.put_member.Goals as goal

pub returns : goal.returns
returns g c =
    puts_then c.put.ensures (puts_then c.put_place.ensures
    (puts_then c.put-2.ensures (rw c.as_bytes.ensures.value at c.put-3.ensures)))

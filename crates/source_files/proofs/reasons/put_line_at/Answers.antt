use Rattle.dev_io.proofs.BufferLemmas.{puts_then}
use Rattle.source_files.proofs.reasons.put_line_at.Goals as goal

pub returns : goal.returns
returns g c =
    puts_then c.put.ensures
    (puts_then (rw c.from.ensures at c.put_number.ensures)
    (puts_then c.put-2.ensures c.put_place.ensures))

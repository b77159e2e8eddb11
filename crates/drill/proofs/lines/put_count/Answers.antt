use Rattle.dev_io.proofs.BufferLemmas.{puts_then}
use Rattle.drill.proofs.lines.put_count.Goals as goal

pub returns : goal.returns
returns g c =
    puts_then c.put.ensures (puts_then c.put-2.ensures
    (puts_then c.put_large.ensures c.put-3.ensures))

use Rattle.dev_io.proofs.BufferLemmas.{puts_then}
use Rattle.drill.proofs.lines.put_reason.Goals as goal

pub returns : goal.returns
returns g c = puts_then c.put.ensures (puts_then c.put_why.ensures c.put-2.ensures)

use Rattle.dev_io.proofs.BufferLemmas.{puts_then}
use Rattle.dev_io.proofs.buffer.OutBuffer.put_three.Goals as goal

pub returns : goal.returns
returns g c = puts_then c.put.ensures (puts_then c.put-2.ensures c.put-3.ensures)

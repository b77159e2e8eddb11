use Rattle.dev_io.proofs.BufferLemmas.{puts_then}
use Rattle.show_prog.proofs.stats.put_rate.Goals as goal

pub returns : goal.returns
returns g c = puts_then c.put.ensures (puts_then c.put_rate_text.ensures c.put-2.ensures)

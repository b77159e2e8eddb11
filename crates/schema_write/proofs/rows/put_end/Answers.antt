use Rattle.dev_io.proofs.BufferLemmas.{puts_then}
use Rattle.schema_write.proofs.rows.put_end.Goals as goal

pub returns : goal.returns
returns g c = puts_then c.put_line.ensures c.put.ensures

use Rattle.dev_io.proofs.BufferLemmas.{puts_then}
use Rattle.source_files.proofs.reasons.put_at.Goals as goal

pub returns : goal.returns
returns g c = puts_then c.put.ensures c.put_number.ensures

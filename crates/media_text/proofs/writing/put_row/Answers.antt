use Rattle.dev_io.proofs.BufferLemmas.{puts_then}
use Rattle.media_text.proofs.writing.put_row.Goals as goal

pub returns : goal.returns
returns g c = puts_then c.put_line.ensures c.put.ensures

use Rattle.dev_io.proofs.BufferLemmas.{puts_then}
use Rattle.json_text.proofs.level.put_end.Goals as goal

pub returns-in-Inside : goal.returns-in-Inside
returns-in-Inside g c = puts_then c.put_line.ensures c.put.ensures

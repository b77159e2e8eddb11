use Rattle.dev_io.proofs.BufferLemmas.{puts_then, puts_none}
use Rattle.edl_text.proofs.write_speeds.put_speed_if.Goals as goal

pub returns-then-needed : goal.returns-then-needed
returns-then-needed g c = rw c.if-needed.true (puts_then c.put_speed.ensures c.put.ensures)

pub returns-else-needed : goal.returns-else-needed
returns-else-needed g c = rw c.if-needed.false (puts_none _)

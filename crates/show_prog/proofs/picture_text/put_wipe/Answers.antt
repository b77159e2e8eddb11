use Rattle.dev_io.proofs.BufferLemmas.{puts_then}
use Rattle.show_prog.proofs.picture_text.put_wipe.Goals as goal

pub returns : goal.returns
returns g c = puts_then c.put.ensures (rw c.last_three-digits.ensures at c.put-2.ensures)

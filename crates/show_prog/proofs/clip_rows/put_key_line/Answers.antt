use Rattle.dev_io.proofs.BufferLemmas.{puts_then}
use Rattle.show_prog.proofs.clip_rows.put_key_line.Goals as goal

pub returns : goal.returns
returns g c =
    let key = rw c.key_of.ensures at c.put_key.ensures in
    puts_then c.put.ensures (puts_then c.put_place.ensures (puts_then c.put-2.ensures (puts_then key c.put-3.ensures)))

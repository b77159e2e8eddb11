use Rattle.dev_io.proofs.BufferLemmas.{puts_then}
use Rattle.show_prog.proofs.stats.put_counts.Goals as goal

pub returns : goal.returns
returns g c =
    puts_then c.put_count.ensures (puts_then c.put_count-2.ensures (puts_then c.put_count-3.ensures
    (puts_then c.put_count-4.ensures c.put_count-5.ensures)))

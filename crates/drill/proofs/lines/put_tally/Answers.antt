use Rattle.std.proofs.Common.{FitsSigned, to_z-of_z, rules}
use Rattle.std.specs.Int.{w128}
use Rattle.dev_io.proofs.BufferLemmas.{puts_then}
use Rattle.drill.proofs.lines.put_tally.Goals as goal

pub returns : goal.returns
returns g c =
    let fits : FitsSigned w128 c.args.tally.back = search rules in
    puts_then c.put_count.ensures (puts_then c.put_count-2.ensures
    (puts_then c.put_count-3.ensures (puts_then c.put_carried.ensures
    (simp to_z-of_z at c.put_sum.ensures))))

use Rattle.std.proofs.Common.{FitsSigned, to_z-of_z, rules}
use Rattle.std.specs.Int.{w128}
use Rattle.dev_io.proofs.BufferLemmas.{puts_then}
use Rattle.show_prog.proofs.stats.put_start.Goals as goal

pub returns : goal.returns
returns g c =
    let fits : FitsSigned w128 c.args.start = search rules in
    puts_then c.put.ensures (puts_then (simp to_z-of_z at c.put_signed.ensures) c.put-2.ensures)

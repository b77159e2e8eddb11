use Rattle.std.proofs.Common.{FitsSigned, to_z-of_z, rules, ap, sym}
use Rattle.std.specs.Int.{w128}
use Rattle.dev_io.proofs.BufferLemmas.{puts_as, puts_then}
use Rattle.drill.specs.Lines.{carried_text}
use Rattle.drill.proofs.lines.put_carried.Goals as goal

pub returns-in-List : goal.returns-in-List
returns-in-List g c =
    let fits : FitsSigned w128 c.in-List.shown = search rules in
    puts_as _ (puts_then c.put_count.ensures (puts_then c.put_count-in-List.ensures
    (simp to_z-of_z at c.put_sum.ensures))) (ap carried_text (sym c.in-List.is))

use Rattle.std.proofs.Common.{FitsSigned, to_z-of_z, rules}
use Rattle.std.specs.Int.{w128}
use Rattle.dev_io.proofs.BufferLemmas.{puts_then}
use Rattle.show_prog.proofs.picture_text.put_weight.Goals as goal

pub returns : goal.returns
returns g c =
    let num : FitsSigned w128 c.args.num = search rules in
    let den : FitsSigned w128 c.args.den = search rules in
    puts_then (simp to_z-of_z at c.put_signed.ensures) (puts_then c.put.ensures (simp to_z-of_z at c.put_signed-2.ensures))

use Rattle.std.proofs.Common.{FitsSigned, to_z-of_z, rules}
use Rattle.std.specs.Int.{w128}
use Rattle.dev_io.proofs.BufferLemmas.{puts_then}
use Rattle.show_prog.proofs.picture_text.put_frame.Goals as goal

pub returns : goal.returns
returns g c =
    let fits : FitsSigned w128 c.args.number = search rules in
    puts_then c.put_key.ensures (puts_then c.put.ensures (simp to_z-of_z at c.put_signed.ensures))

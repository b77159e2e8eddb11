use Rattle.std.proofs.Common.{FitsSigned, to_z-of_z, rules}
use Rattle.std.specs.Int.{w128}
use Rattle.dev_io.proofs.BufferLemmas.{puts_then}
use Rattle.pull_list.proofs.lines.put_span.Goals as goal

pub returns : goal.returns
returns g c =
    let one : FitsSigned w128 c.args.span.now.first = search rules in
    let two : FitsSigned w128 c.args.span.now.count = search rules in
    let first = simp (to_z-of_z one) at c.put_signed.ensures in
    let count = simp (to_z-of_z two) at c.put_signed-2.ensures in
    puts_then c.put.ensures (puts_then c.put_key.ensures (puts_then c.put-2.ensures
    (puts_then c.put_rate_text.ensures (puts_then c.put-3.ensures (puts_then first
    (puts_then c.put-4.ensures (puts_then count c.put-5.ensures)))))))

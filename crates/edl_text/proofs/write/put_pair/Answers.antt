use Rattle.dev_io.proofs.BufferLemmas.{puts_then, puts_as}
use Rattle.edl_text.proofs.Texts.{pair_parts}
use Rattle.edl_text.proofs.write.put_pair.Goals as goal

pub returns : goal.returns
returns g c =
    let last = puts_then c.put_speeds.ensures (puts_then c.put_name.ensures c.put_name-2.ensures) in
    let all = puts_then c.put_first.ensures (puts_then c.put.ensures (puts_then c.put_main.ensures (puts_then c.put-2.ensures last))) in
    puts_as _ all (pair_parts c.args.numbering.style.rate c.args.numbering.style.drop c.args.numbering.style.layout c.args.numbering.number c.args.event.now c.args.from.now c.requires.pair)

use Rattle.dev_io.proofs.BufferLemmas.{puts_then, puts_as}
use Rattle.edl_text.proofs.Texts.{cut_parts}
use Rattle.edl_text.proofs.write.put_cut.Goals as goal

pub returns : goal.returns
returns g c =
    let speeds = rw c.has_speed-has_line.ensures at c.put_speed_if.ensures in
    let all = puts_then c.put_main.ensures (puts_then c.put.ensures (puts_then speeds c.put_name.ensures)) in
    puts_as _ all (cut_parts c.args.numbering.style.rate c.args.numbering.style.drop c.args.numbering.style.layout c.args.numbering.number c.args.event.now c.requires.cut)

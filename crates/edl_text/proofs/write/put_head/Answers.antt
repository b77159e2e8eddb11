use Rattle.dev_io.proofs.BufferLemmas.{puts_then, puts_as}
use Rattle.edl_text.proofs.Texts.{head_parts}
use Rattle.edl_text.proofs.write.put_head.Goals as goal

pub returns : goal.returns
returns g c =
    let title = rw (c.as_bytes.ensures.value, c.as_str.ensures) at c.put_headed.ensures in
    puts_as _ (puts_then title c.put.ensures) (head_parts c.args.list.now c.args.drop _ c.mode_line.ensures)

use Rattle.std.proofs.Common.{sym}
use Rattle.dev_io.proofs.BufferLemmas.{puts_then, puts_as}
use Rattle.edl_text.proofs.Texts.{text_append}
use Rattle.edl_text.proofs.write.put_speeds.Goals as goal

pub returns : goal.returns
returns g c =
    let first = rw c.has_speed.ensures at c.put_speed_if.ensures in
    let second = rw c.needs_line.ensures at c.put_speed_if-2.ensures in
    puts_as _ (puts_then first second) (sym (text_append _ _))

use Rattle.std.proofs.Common.{◌∙◌}
use Rattle.dev_io.proofs.BufferLemmas.{puts_then}
use Rattle.show_prog.proofs.clip_rows.put_name_line.Goals as goal

pub returns : goal.returns
returns g c =
    let name = rw (c.as_bytes.ensures.value ∙ c.as_str.ensures) at c.put_string.ensures in
    puts_then c.put.ensures (puts_then c.put_place.ensures (puts_then c.put-2.ensures (puts_then name c.put-3.ensures)))

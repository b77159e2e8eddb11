use Rattle.std.proofs.Common.{◌∙◌}
use Rattle.dev_io.proofs.BufferLemmas.{puts_then}
use Rattle.show_prog.proofs.picture_text.put_headed.Goals as goal

pub returns : goal.returns
returns g c = puts_then c.put.ensures (rw (c.as_bytes.ensures.value ∙ c.as_str.ensures) at c.put_string.ensures)

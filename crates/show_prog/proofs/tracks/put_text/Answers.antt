use Rattle.std.proofs.Common.{◌∙◌}
use Rattle.show_prog.proofs.tracks.put_text.Goals as goal

pub returns : goal.returns
returns g c = rw (c.as_bytes.ensures.value ∙ c.as_str.ensures) at c.put_string.ensures

use Rattle.std.proofs.Common.{sym}
use Rattle.dev_io.proofs.BufferLemmas.{puts_then, puts_as}
use Rattle.json_text.specs.Levels.{deep}
use Rattle.json_text.proofs.Lines.{text_at-Str}
use Rattle.schema_write.proofs.rows.put_text_row.Goals as goal

pub returns : goal.returns
returns g c = puts_then c.put_row_name.ensures
    (puts_as _ (rw (c.as_bytes.ensures.value, c.as_str.ensures) at c.put_string.ensures)
    (sym (text_at-Str c.args.text.now (deep c.args.level.now))))

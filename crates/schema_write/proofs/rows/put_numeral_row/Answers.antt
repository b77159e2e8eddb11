use Rattle.std.proofs.Common.{sym}
use Rattle.dev_io.proofs.BufferLemmas.{puts_then, puts_as}
use Rattle.json_text.specs.Levels.{deep}
use Rattle.json_text.proofs.Lines.{text_at-Num}
use Rattle.schema_write.proofs.rows.put_numeral_row.Goals as goal

pub returns : goal.returns
returns g c = puts_then c.put_row_name.ensures
    (puts_as _ (rw c.as_bytes.ensures.value at c.put.ensures)
    (sym (text_at-Num c.args.numeral.now (deep c.args.level.now))))

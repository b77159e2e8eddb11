use Rattle.std.proofs.Common.{sym}
use Rattle.dev_io.proofs.BufferLemmas.{puts_then, puts_as}
use Rattle.json_text.specs.Levels.{deep}
use Rattle.json_text.proofs.Lines.{text_at-Bool}
use Rattle.schema_write.proofs.rows.put_flag_row.Goals as goal

pub returns : goal.returns
returns g c = puts_then c.put_row_name.ensures
    (puts_as _ c.put_truth.ensures (sym (text_at-Bool c.args.truth (deep c.args.level.now))))

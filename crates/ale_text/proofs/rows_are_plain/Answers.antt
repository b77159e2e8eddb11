use Rattle.ale_text.proofs.PlainRows.{log_plain}
use Rattle.ale_text.proofs.rows_are_plain.Goals as goal

pub returns : goal.returns
returns c = log_plain

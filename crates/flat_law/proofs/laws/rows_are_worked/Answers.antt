use Rattle.flat_law.proofs.Rows.{are_worked}
use Rattle.flat_law.proofs.laws.rows_are_worked.Goals as goal

pub returns : goal.returns
returns c = are_worked

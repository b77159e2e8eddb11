use Rattle.schema_rows.proofs.Distinct.{rows_distinct}
use Rattle.schema_rows.proofs.laws.names_are_distinct.Goals as goal

pub returns : goal.returns
returns c = rows_distinct

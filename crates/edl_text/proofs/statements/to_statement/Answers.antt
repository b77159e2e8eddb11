use Rattle.edl_text.proofs.RefusedLines.{to_form}
use Rattle.edl_text.proofs.statements.to_statement.Goals as goal

pub returns-in-None : goal.returns-in-None
returns-in-None c = to_form _ _ c.requires.tight c.requires.note c.in-None.ensures

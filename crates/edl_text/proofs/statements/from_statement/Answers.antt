use Rattle.edl_text.proofs.RefusedLines.{from_form}
use Rattle.edl_text.proofs.statements.from_statement.Goals as goal

pub returns-in-None : goal.returns-in-None
returns-in-None c = from_form _ _ c.requires.tight c.requires.note c.in-None.ensures

use Rattle.writable_law.proofs.CalmTimelines.{stands_again}
use Rattle.script_law.proofs.EditedTimelines.{stays_writable}
use Rattle.script_law.proofs.edited_laws.edited_timelines_are_writable.Goals as goal

pub returns-clause-writable : goal.returns-clause-writable
returns-clause-writable c = stays_writable

pub returns-clause-again : goal.returns-clause-again
returns-clause-again c t e new s h i v a = stands_again new (stays_writable t e new s h i v a)

use Rattle.writable_law.proofs.CalmTimelines.{stands_again}
use Rattle.script_law.proofs.WritableScripts.{scripts_keep}
use Rattle.script_law.proofs.edited_laws.scripts_keep_timelines_writable.Goals as goal

pub returns-clause-writable : goal.returns-clause-writable
returns-clause-writable c = scripts_keep

pub returns-clause-again : goal.returns-clause-again
returns-clause-again c media script n t s sound h runs =
    stands_again s.now (scripts_keep media script n t s sound h runs)

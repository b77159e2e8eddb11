use Rattle.edits_law.proofs.Kept.{edit_unreached, edit_others}
use Rattle.edits_law.proofs.depth_laws.unreached_stays.Goals as goal

pub returns-clause-unreached : goal.returns-clause-unreached
returns-clause-unreached c = edit_unreached

pub returns-clause-others : goal.returns-clause-others
returns-clause-others c = edit_others

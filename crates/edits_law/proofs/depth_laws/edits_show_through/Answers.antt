use Rattle.edits_law.proofs.AnyDepth.{all_agree, steady_equal}
use Rattle.edits_law.proofs.depth_laws.edits_show_through.Goals as goal

pub returns-clause-agree : goal.returns-clause-agree
returns-clause-agree c = all_agree

pub returns-clause-equal : goal.returns-clause-equal
returns-clause-equal c = steady_equal

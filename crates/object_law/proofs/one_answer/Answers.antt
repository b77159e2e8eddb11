use Rattle.object_law.proofs.Verdicts.{stands_for_one, has_one_count, has_one_fault, is_never_both}
use Rattle.object_law.proofs.one_answer.Goals as goal

pub returns-clause-object : goal.returns-clause-object
returns-clause-object c = stands_for_one

pub returns-clause-count : goal.returns-clause-count
returns-clause-count c = has_one_count

pub returns-clause-fault : goal.returns-clause-fault
returns-clause-fault c = has_one_fault

pub returns-clause-apart : goal.returns-clause-apart
returns-clause-apart c = is_never_both

use Rattle.media_list.proofs.OneOutcome.{list_once, fault_once, list_or_fault}
use Rattle.media_list.proofs.one_outcome.Goals as goal

pub returns-clause-list : goal.returns-clause-list
returns-clause-list c = list_once

pub returns-clause-fault : goal.returns-clause-fault
returns-clause-fault c = fault_once

pub returns-clause-either : goal.returns-clause-either
returns-clause-either c = list_or_fault

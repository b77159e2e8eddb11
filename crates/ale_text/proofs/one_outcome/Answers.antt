use Rattle.ale_text.proofs.OneOutcome.{log_once, fault_once, log_or_fault}
use Rattle.ale_text.proofs.one_outcome.Goals as goal

pub returns-clause-log : goal.returns-clause-log
returns-clause-log c = log_once

pub returns-clause-fault : goal.returns-clause-fault
returns-clause-fault c = fault_once

pub returns-clause-either : goal.returns-clause-either
returns-clause-either c = log_or_fault

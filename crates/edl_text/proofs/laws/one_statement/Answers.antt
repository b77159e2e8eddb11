use Rattle.edl_text.proofs.OneStatement.{says_unique, fault_unique, says_or_fault}
use Rattle.edl_text.proofs.laws.one_statement.Goals as goal

pub returns-clause-statement : goal.returns-clause-statement
returns-clause-statement c = says_unique

pub returns-clause-fault : goal.returns-clause-fault
returns-clause-fault c = fault_unique

pub returns-clause-apart : goal.returns-clause-apart
returns-clause-apart c = says_or_fault

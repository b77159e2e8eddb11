use Rattle.source_files.proofs.ListLemmas.{fault_refused}
use Rattle.source_files.proofs.lists.list_of.Goals as goal

pub returns-in-Err-clause-read : goal.returns-in-Err-clause-read
returns-in-Err-clause-read c = λ rate bytes fed.
    fault_refused rate c.in-Err.fault bytes c.list_refusal.result
    (c.in-Err.ensures.fault rate bytes fed) c.list_refusal.ensures

use Rattle.source_files.proofs.ListLemmas.{fault_refused}
use Rattle.source_files.proofs.NotedLemmas.{suits_notes}
use Rattle.source_files.proofs.lists.noted_of.Goals as goal

pub finish-requires-in-Ok : goal.finish-requires-in-Ok
finish-requires-in-Ok c =
    c.in-Ok.ensures.well_formed c.requires.0 c.requires.1 c.requires.2

pub returns-in-Ok-finish-clause-read : goal.returns-in-Ok-finish-clause-read
returns-in-Ok-finish-clause-read c = λ rate bytes read heard. record {
  is = c.in-Ok.ensures.list rate bytes read;
  are = c.in-Ok-finish.ensures rate bytes heard (c.in-Ok.ensures.list rate bytes read);
}

pub returns-in-Ok-finish-clause-suits : goal.returns-in-Ok-finish-clause-suits
returns-in-Ok-finish-clause-suits c = λ rate bytes read heard.
    suits_notes bytes c.in-Ok.list c.in-Ok-finish.notes
    (c.in-Ok.ensures.well_formed rate bytes read)
    (c.in-Ok-finish.ensures rate bytes heard (c.in-Ok.ensures.list rate bytes read))

pub returns-in-Err-clause-read : goal.returns-in-Err-clause-read
returns-in-Err-clause-read c = λ rate bytes read heard.
    fault_refused rate c.in-Err.fault bytes c.list_refusal.result
    (c.in-Err.ensures.fault rate bytes read) c.list_refusal.ensures

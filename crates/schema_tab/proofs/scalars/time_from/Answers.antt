use Rattle.schema_tab.proofs.scalars.time_from.Goals as goal

pub returns-in-Err-clause-fault : goal.returns-in-Err-clause-fault
returns-in-Err-clause-fault c = λ n. ((c.rated_in.result.0, c.rated_in.result.1, c.rated_in.ensures, c.in-Err.ensures.fault.1), c.range_fault.ensures n)

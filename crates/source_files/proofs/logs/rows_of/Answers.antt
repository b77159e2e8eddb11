use Rattle.source_files.proofs.LogLemmas.{fault_refused}
use Rattle.source_files.proofs.logs.rows_of.Goals as goal

pub returns-in-Err-clause-read : goal.returns-in-Err-clause-read
returns-in-Err-clause-read c =
    fault_refused c.in-Err.fault c.args.bytes.now c.log_refusal.result
    c.in-Err.ensures.fault c.log_refusal.ensures

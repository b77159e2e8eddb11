use Rattle.source_files.proofs.MediaLemmas.{fault_refused}
use Rattle.source_files.proofs.media.rows_of.Goals as goal

pub returns-in-Err-clause-read : goal.returns-in-Err-clause-read
returns-in-Err-clause-read c = fault_refused c.in-Err.fault c.args.reader c.media_refusal.result
    c.in-Err.ensures.fault c.media_refusal.ensures

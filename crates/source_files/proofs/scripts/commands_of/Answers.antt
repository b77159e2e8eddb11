use Rattle.source_files.proofs.ScriptLemmas.{fault_refused}
use Rattle.source_files.proofs.scripts.commands_of.Goals as goal

pub returns-in-Err-clause-read : goal.returns-in-Err-clause-read
returns-in-Err-clause-read c =
    fault_refused c.in-Err.fault c.args.bytes.now c.script_refusal.result
    c.in-Err.ensures.fault c.script_refusal.ensures

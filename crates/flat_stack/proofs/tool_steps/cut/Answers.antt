use Rattle.flat_stack.specs.Tooled.{untrimmed}
use Rattle.flat_stack.proofs.tool_steps.cut.Goals as goal

pub returns-in-Err-trimmed-clause-fault : goal.returns-in-Err-trimmed-clause-fault
returns-in-Err-trimmed-clause-fault c = λ n.
    untrimmed c.in-Ok.shaped c.in-Ok.ensures.shaped (c.in-Err-trimmed.ensures.fault n)

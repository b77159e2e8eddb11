use Rattle.flat_stack.specs.Tooled.{unflat}
use Rattle.flat_stack.proofs.tool_steps.tooled.Goals as goal

pub returns-in-Err-flattened-clause-fault : goal.returns-in-Err-flattened-clause-fault
returns-in-Err-flattened-clause-fault c = λ n.
    unflat c.in-Ok.cut c.in-Ok.ensures.cut (c.in-Err-flattened.ensures.fault n)

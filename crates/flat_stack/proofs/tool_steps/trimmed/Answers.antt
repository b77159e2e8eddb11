use Rattle.std.proofs.Common.{sym, subst, Some}
use Rattle.flat_stack.specs.Shaped.{IsUntrimmed}
use Rattle.flat_stack.proofs.Carrying.{trim_ready}
use Rattle.flat_stack.proofs.tool_steps.trimmed.Goals as goal

pub returns-in-Ok-clause-ready : goal.returns-in-Ok-clause-ready
returns-in-Ok-clause-ready c =
    trim_ready (Some c.in-Some.asked) c.args.timeline c.in-Ok.part c.requires
    c.in-Ok.ensures.trimmed

pub returns-in-Err-clause-fault : goal.returns-in-Err-clause-fault
returns-in-Err-clause-fault c = λ n.
    subst (λ o. IsUntrimmed o c.args.timeline c.in-Err.fault) (sym c.in-Some.is)
    (c.in-Err.ensures.fault n)

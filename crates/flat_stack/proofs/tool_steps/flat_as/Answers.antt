use Rattle.std.proofs.Common.{sym, subst, Some, inr}
use Rattle.flat_stack.specs.Shaped.{IsFlattened, IsUnflat}
use Rattle.flat_stack.proofs.tool_steps.flat_as.Goals as goal

pub returns-in-Ok-flat_of-clause-flat : goal.returns-in-Ok-flat_of-clause-flat
returns-in-Ok-flat_of-clause-flat c =
    subst (λ j. IsFlattened (Some j) c.args.keep c.args.timeline.now c.in-Ok-flat_of.flat)
    (sym c.in-All.is)
    (c.in-Ok.pictures, c.in-Ok.ensures.flat, c.in-Ok-flat_of.ensures.flat)

pub returns-in-Err-flat_of-clause-fault : goal.returns-in-Err-flat_of-clause-fault
returns-in-Err-flat_of-clause-fault c = λ n.
    subst (λ j. IsUnflat (Some j) c.args.keep c.args.timeline.now c.in-Err-flat_of.fault)
    (sym c.in-All.is)
    (inr (c.in-Ok.pictures, c.in-Ok.ensures.flat, c.in-Err-flat_of.ensures.fault n))

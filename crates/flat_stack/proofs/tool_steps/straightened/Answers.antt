use Rattle.std.proofs.Common.{true}
use Rattle.flat_stack.proofs.Carrying.{straight_ready}
use Rattle.flat_stack.proofs.tool_steps.straightened.Goals as goal

pub returns-in-Ok-clause-ready : goal.returns-in-Ok-clause-ready
returns-in-Ok-clause-ready c =
    straight_ready true c.args.timeline c.in-Ok.straight c.requires c.in-Ok.ensures.straight

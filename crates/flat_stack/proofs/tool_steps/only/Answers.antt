use Rattle.std.proofs.Common.{Some}
use Rattle.flat_stack.proofs.Carrying.{only_ready}
use Rattle.flat_stack.proofs.tool_steps.only.Goals as goal

pub returns-in-Ok-clause-ready : goal.returns-in-Ok-clause-ready
returns-in-Ok-clause-ready c =
    only_ready (Some c.in-Some.kind) c.args.timeline c.in-Ok.kept c.requires c.in-Ok.ensures

use Rattle.flat_stack.proofs.Carrying.{flat_ready}
use Rattle.flat_stack.proofs.tool_steps.flat_of.Goals as goal

pub returns-in-Ok-narrow-clause-ready : goal.returns-in-Ok-narrow-clause-ready
returns-in-Ok-narrow-clause-ready c =
    flat_ready c.args.kind c.args.keep c.args.timeline.now c.in-Ok.flat c.in-Ok-narrow.flat
    c.requires c.in-Ok.ensures.flat c.in-Ok-narrow.ensures.same c.in-Ok-narrow.ensures.few

use Rattle.std.proofs.Common.{refl, subst, ◌<◌, ◌≤◌}
use Rattle.limits.specs.Limits.{most_items}
use Rattle.flat_stack.specs.declared.step_faults.ToolFault.TheVariants.{Items}
use Rattle.flat_stack.specs.Gathered.{items_in}
use Rattle.flat_stack.proofs.Carrying.{stack_ready}
use Rattle.flat_stack.proofs.Ending.{piles, stack_few, stack_many}
use Rattle.flat_stack.proofs.concatenation.stacked.Goals as goal

pub returns-then-are_many-clause-fault : goal.returns-then-are_many-clause-fault
returns-then-are_many-clause-fault c = λ n.
    stack_many c.args.inputs.items Items c.requires.some
    (subst (λ l. most_items < items_in l) c.as_slice.ensures.value c.if-are_many.ensures) refl

pub returns-in-Ok-clause-stacked : goal.returns-in-Ok-clause-stacked
returns-in-Ok-clause-stacked c =
    stack_few c.args.inputs.items c.in-Ok.piled
    (subst (λ l. items_in l ≤ most_items) c.as_slice.ensures.value c.if-are_many.ensures)
    (piles c.args.inputs.items c.in-Ok.piled c.requires.some c.in-Ok.ensures.piled)

pub returns-in-Ok-clause-ready : goal.returns-in-Ok-clause-ready
returns-in-Ok-clause-ready c =
    stack_ready c.args.inputs.items c.in-Ok.piled c.requires.ready
    (stack_few c.args.inputs.items c.in-Ok.piled
    (subst (λ l. items_in l ≤ most_items) c.as_slice.ensures.value c.if-are_many.ensures)
    (piles c.args.inputs.items c.in-Ok.piled c.requires.some c.in-Ok.ensures.piled))

use Rattle.std.proofs.Common.{arith}
use Rattle.flat_stack.proofs.CountedSteps.{items_next}
use Rattle.flat_stack.proofs.concatenation.items_in.Goals as goal

pub inputs-preserved : goal.inputs-preserved
inputs-preserved c =
    items_next c.args.inputs.now c.inputs.input-index c.inputs.items _ _ c.input-item.result _
    (omega arith) c.input-item.is c.inputs.invariant c.items_below.ensures
    c.saturating_add-items.ensures

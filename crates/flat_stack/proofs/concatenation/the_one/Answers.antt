use Rattle.flat_stack.proofs.PileLemmas.{only_one}
use Rattle.flat_stack.proofs.concatenation.the_one.Goals as goal

pub returns : goal.returns
returns c =
    only_one c.args.inputs.items c.swap_remove.result c.requires c.swap_remove.ensures.value

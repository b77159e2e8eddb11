use Rattle.std.proofs.Common.{refl}
use Rattle.flat_stack.specs.declared.step_faults.ToolFault.TheVariants.{Items}
use Rattle.flat_stack.specs.Gathered.{unjoined}
use Rattle.flat_stack.proofs.Carrying.{all_sound, concat_written}
use Rattle.flat_stack.proofs.Ending.{too_many}
use Rattle.flat_stack.proofs.concatenation.concatenated.Goals as goal

pub join_within-requires-clause-sound : goal.join_within-requires-clause-sound
join_within-requires-clause-sound c = all_sound c.args.inputs.items c.requires.ready

pub returns-in-Ok-Some-clause-written : goal.returns-in-Ok-Some-clause-written
returns-in-Ok-Some-clause-written c =
    let joined = rw c.in-Ok-Some.field-0-is at c.in-Ok-Some.ensures.joined in
    concat_written c.args.inputs.items c.in-Ok-Some.joined c.requires.ready joined.0

pub returns-in-Ok-None-clause-fault : goal.returns-in-Ok-None-clause-fault
returns-in-Ok-None-clause-fault c = λ n.
    let large = rw c.in-Ok-None.field-0-is at c.in-Ok-None.ensures.large in
    too_many c.args.inputs.items Items c.requires.ready c.requires.some large.0 large.1 refl

pub returns-in-Err-clause-fault : goal.returns-in-Err-clause-fault
returns-in-Err-clause-fault c = λ n.
    let told = c.at.ensures n in
    unjoined c.in-Err.why told.0 c.in-Err.ensures.refused told.1

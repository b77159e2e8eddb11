use Rattle.std.proofs.Common.{sym, subst, Some, IfErr}
use Rattle.flat_stack.specs.Chains.{Told}
use Rattle.flat_stack.specs.Gathered.{IsUngathered}
use Rattle.flat_stack.proofs.concatenation.joined_by.Goals as goal

pub returns-in-Concat-clause-fault : goal.returns-in-Concat-clause-fault
returns-in-Concat-clause-fault c =
    subst (λ j.
    IfErr c.concatenated_soundly.result (Told (IsUngathered (Some j) c.args.inputs.items)))
    (sym c.in-Concat.is) c.concatenated_soundly.ensures.fault

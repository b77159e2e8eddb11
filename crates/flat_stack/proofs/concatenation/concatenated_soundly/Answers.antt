use Rattle.std.proofs.Common.{ap, subst, inl, inr}
use Rattle.otio_model.specs.Timelines.{bare}
use Rattle.coord.specs.Soundness.{IsFaultless}
use Rattle.flat_stack.proofs.Carrying.{concat_ready}
use Rattle.flat_stack.proofs.concatenation.concatenated_soundly.Goals as goal

pub returns-in-Ok-checked-clause-joined : goal.returns-in-Ok-checked-clause-joined
returns-in-Ok-checked-clause-joined c =
    let same = c.in-Ok-checked.ensures.same in
    let faultless = subst IsFaultless same c.in-Ok-checked.ensures.sound in
    (c.in-Ok.joined, c.in-Ok.ensures.joined, (ap bare same, faultless))

pub returns-in-Ok-checked-clause-ready : goal.returns-in-Ok-checked-clause-ready
returns-in-Ok-checked-clause-ready c =
    let joined = c.in-Ok.ensures.joined in
    let same = c.in-Ok-checked.ensures.same in
    let faultless = subst IsFaultless same c.in-Ok-checked.ensures.sound in
    concat_ready c.in-Ok.joined c.in-Ok-checked.sound c.in-Ok.ensures.written joined.1 faultless
    same

pub returns-in-Err-checked-clause-fault : goal.returns-in-Err-checked-clause-fault
returns-in-Err-checked-clause-fault c = λ n.
    inr (c.in-Ok.joined, c.in-Ok.ensures.joined, c.in-Err-checked.ensures.fault n)

pub returns-in-Err-clause-fault : goal.returns-in-Err-clause-fault
returns-in-Err-clause-fault c = λ n. inl (c.in-Err.ensures.fault n)

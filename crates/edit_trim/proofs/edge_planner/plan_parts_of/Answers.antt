use Rattle.std.proofs.Common.{arith, sym}
use Rattle.std.proofs.lemmas.Int.{ints, to_z-of_z}
use Rattle.std.proofs.lemmas.Result.{IfErr-weaker, IfOk-weaker}
use Rattle.edits.specs.Refusals.{at_once}
use Rattle.edit_trim.specs.Asked.{edit_of}
use Rattle.edit_trim.proofs.Early.{negative, place_first}
use Rattle.edit_trim.proofs.edge_planner.plan_parts_of.Goals as goal

pub returns-in-Some-clause-fault : goal.returns-in-Some-clause-fault
returns-in-Some-clause-fault c = λ _. at_once (place_first c.args.timeline.now c.args.place
    c.args.at c.args.edges c.in-Some.fault (sym c.in-Some.ensures))

pub returns-then-at-lt0-clause-fault : goal.returns-then-at-lt0-clause-fault
returns-then-at-lt0-clause-fault c =
    let at = c.ranges.at in
    λ _. at_once (negative c.args.timeline.now c.args.place c.args.at c.args.edges
    (sym c.in-None.ensures) (omega (arith, ints)))

pub planned-requires-clause-there : goal.planned-requires-clause-there
planned-requires-clause-there c = sym c.in-None.ensures

pub finished-requires-clause-edit : goal.finished-requires-clause-edit
finished-requires-clause-edit c =
    let at = c.ranges.at in
    (edit_of c.args.place c.args.at c.args.edges, (simp to_z-of_z at c.in-Ok.ensures.plan))

pub returns-in-Ok-clause-plan : goal.returns-in-Ok-clause-plan
returns-in-Ok-clause-plan c =
    let at = c.ranges.at in
    IfOk-weaker c.finished.result _ _ (λ p f. f (edit_of c.args.place c.args.at c.args.edges)
    (simp to_z-of_z at c.in-Ok.ensures.plan)) c.finished.ensures.plan

pub returns-in-Ok-clause-fault : goal.returns-in-Ok-clause-fault
returns-in-Ok-clause-fault c =
    let at = c.ranges.at in
    IfErr-weaker c.finished.result _ _ (λ p f _. f (edit_of c.args.place c.args.at c.args.edges)
    (simp to_z-of_z at c.in-Ok.ensures.plan)) c.finished.ensures.fault

pub returns-in-Err-clause-fault : goal.returns-in-Err-clause-fault
returns-in-Err-clause-fault c =
    let at = c.ranges.at in
    simp to_z-of_z at c.in-Err.ensures.fault

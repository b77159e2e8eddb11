use Rattle.std.proofs.Common.{rules, FitsSigned}
use mir.Syntax.{w128}
use Rattle.std.proofs.lemmas.Int.{to_z-of_z}
use Rattle.edit_plans.proofs.Steps.{slips}
use Rattle.edit_plans.proofs.moves.slip_by.Goals as goal

pub returns-in-Some-clause-value : goal.returns-in-Some-clause-value
returns-in-Some-clause-value c =
    let frame = c.ranges.frame in
    let by = c.ranges.by in
    let fits : FitsSigned w128 c.slip_in.result = search rules in
    simp to_z-of_z (slips c.args.frame c.args.by c.slip_in.result c.in-Some.room.before
    c.in-Some.room.behind c.args.item.now c.in-Some.ensures.value
    (simp to_z-of_z at c.slip_in.ensures.value))

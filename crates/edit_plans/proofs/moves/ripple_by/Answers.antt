use Rattle.std.proofs.Common.{rules, FitsSigned}
use mir.Syntax.{w128}
use Rattle.std.proofs.lemmas.Int.{to_z-of_z}
use Rattle.edit_plans.specs.Meanings.{moves_of}
use Rattle.edit_plans.proofs.Steps.{move-fits, ripples}
use Rattle.edit_plans.proofs.moves.ripple_by.Goals as goal

pub returns-clause-value : goal.returns-clause-value
returns-clause-value c =
    let frame = c.ranges.frame in
    let by_head = move-fits c.args.by.head c.requires.head in
    let by_tail = move-fits c.args.by.tail c.requires.tail in
    let head : FitsSigned w128 c.ripple_head-head.result = search rules in
    let tail : FitsSigned w128 c.ripple_tail-tail.result = search rules in
    simp to_z-of_z (ripples c.args.frame c.ripple_head-head.result c.ripple_tail-tail.result
    c.args.item.now (moves_of c.args.by) (simp to_z-of_z at c.ripple_head-head.ensures.value)
    (simp to_z-of_z at c.ripple_tail-tail.ensures.value))

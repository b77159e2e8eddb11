use Rattle.std.proofs.Common.{rules, FitsSigned}
use mir.Syntax.{w128}
use Rattle.std.proofs.lemmas.Int.{to_z-of_z}
use Rattle.edit_plans.specs.Meanings.{moves_of}
use Rattle.edit_plans.proofs.Steps.{move-fits, trims}
use Rattle.edit_plans.proofs.moves.trim_by.Goals as goal

pub returns-clause-value : goal.returns-clause-value
returns-clause-value c =
    let frame = c.ranges.frame in
    let by_head = move-fits c.args.by.head c.requires.head in
    let by_tail = move-fits c.args.by.tail c.requires.tail in
    let head : FitsSigned w128 c.trim_head-head.result = search rules in
    let tail : FitsSigned w128 c.trim_tail-tail.result = search rules in
    simp to_z-of_z (trims c.args.frame c.trim_head-head.result c.trim_tail-tail.result _ _
    c.args.item.now (moves_of c.args.by) (simp to_z-of_z at c.trim_head-head.ensures.value)
    (simp to_z-of_z at c.trim_tail-tail.ensures.value))

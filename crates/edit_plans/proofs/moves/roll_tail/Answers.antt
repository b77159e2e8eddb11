use Rattle.std.proofs.Common.{rules, sym, ap, ◌∙◌, FitsSigned}
use mir.Syntax.{w128}
use Rattle.std.specs.Prelude.{option_copied}
use Rattle.std.proofs.lemmas.Int.{to_z-of_z}
use Rattle.edit_plans.proofs.Steps.{rolls_tail}
use Rattle.edit_plans.proofs.moves.roll_tail.Goals as goal

pub returns-else-is_zero-clause-value : goal.returns-else-is_zero-clause-value
returns-else-is_zero-clause-value c =
    let frame = c.ranges.frame in
    let head = c.ranges.head in
    let by = c.ranges.by in
    let f1 : FitsSigned w128 c.cut_behind.result = search rules in
    simp to_z-of_z (λ h e k. rolls_tail c.args.frame c.args.head c.args.by c.cut_behind.result
    c.args.item.now c.in-Some.other.now (sym (simp to_z-of_z at c.if-is_zero.ensures))
    (simp to_z-of_z at c.cut_behind.ensures.value) h e (k ∙ ap option_copied c.in-Some.is))

use Rattle.std.proofs.Common.{rules, subst, FitsSigned, ◌≡◌, Some, IfOk}
use mir.Syntax.{w128}
use Rattle.std.proofs.lemmas.Int.{to_z-of_z}
use Rattle.edits.specs.Children as children
use Rattle.pieces.proofs.cutting.left_piece.Goals as goal

pub returns : goal.returns
returns c =
    let fits : FitsSigned w128 c.start_ticks.result = search rules in
    let fits_too = c.ranges.ticks in
    let made = simp to_z-of_z at c.ranged_within.ensures in
    subst (λ z. IfOk c.ranged_within.result
    (λ piece. children.made c.args.rate (children.Ranged c.args.item.now z c.args.ticks)
    ≡ Some piece)) c.start_ticks.ensures.value made

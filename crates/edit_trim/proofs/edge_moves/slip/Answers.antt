use Rattle.std.proofs.Common.{rules, ◌≡◌, FitsSigned, ◌*ℤ◌}
use mir.Syntax.{w128}
use Rattle.std.proofs.lemmas.Int.{to_z-of_z}
use Rattle.edit_trim.proofs.Asking.{slip_as}
use Rattle.edit_trim.proofs.edge_moves.slip.Goals as goal

pub returns : goal.returns
returns c =
    let frame = c.ranges.frame in
    let by = c.ranges.by in
    let f1 : FitsSigned w128 c.in_ticks.result = search rules in
    let f2 : FitsSigned w128 c.slip_by.result = search rules in
    let e1 : c.in_ticks.result ≡ (c.args.by *ℤ c.args.frame) =
    simp to_z-of_z at c.in_ticks.ensures.value in
    simp to_z-of_z (slip_as c.args.frame c.args.by c.in_ticks.result c.slip_by.result
    c.args.item.now e1 (simp to_z-of_z at c.slip_by.ensures.value) c.slip_by.ensures.near)

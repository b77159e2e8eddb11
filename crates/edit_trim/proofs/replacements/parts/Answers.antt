use Rattle.std.proofs.Common.{rules, FitsSigned}
use mir.Syntax.{w128}
use Rattle.std.proofs.lemmas.Int.{to_z-of_z}
use Rattle.edit_trim.proofs.PutEdges.{far_before, far_behind, far_gap_before, far_gap_behind, far_item}
use Rattle.edit_trim.proofs.PutEdges.{parts_made}
use Rattle.std.proofs.lemmas.Result.{err_from_is_err_and}
use Rattle.edit_trim.proofs.replacements.parts.Goals as goal

pub returns-in_err-before-clause-far : goal.returns-in_err-before-clause-far
returns-in_err-before-clause-far c =
    let p = err_from_is_err_and c.from_residual.result c.from_residual.ensures.1 in
    rw (p.1, p.2) (λ e. far_before c.args.shape c.args.before.items c.args.item.now
    c.args.behind.items (c.in_err-before.ensures.far e))

pub returns-in-Ok-clause-made : goal.returns-in-Ok-clause-made
returns-in-Ok-clause-made c =
    let f1 : FitsSigned w128 c.args.shape.gap_before = search rules in
    let f2 : FitsSigned w128 c.args.shape.gap_behind = search rules in
    parts_made c.args.making.rate c.args.shape c.args.before.items c.args.item.now c.args.behind.items
    c.in_ok-before.before.items c.in_ok-gap_before.gap_before.items c.in_ok-put.put.items
    c.in_ok-gap_behind.gap_behind.items c.in_ok-behind.behind.items c.in-Ok.all.items
    c.in_ok-before.ensures.made (simp to_z-of_z at c.in_ok-gap_before.ensures.made)
    c.in_ok-put.ensures.made (simp to_z-of_z at c.in_ok-gap_behind.ensures.made)
    c.in_ok-behind.ensures.made c.in-Ok.ensures

pub returns-in_err-gap_before-clause-far : goal.returns-in_err-gap_before-clause-far
returns-in_err-gap_before-clause-far c =
    let f1 : FitsSigned w128 c.args.shape.gap_before = search rules in
    let p = err_from_is_err_and c.from_residual-in_err-gap_before.result
    c.from_residual-in_err-gap_before.ensures.1 in
    rw (p.1, p.2) (λ e. far_gap_before c.args.shape c.args.before.items c.args.item.now
    c.args.behind.items ((simp to_z-of_z at c.in_err-gap_before.ensures.far) e))

pub returns-in_err-put-clause-far : goal.returns-in_err-put-clause-far
returns-in_err-put-clause-far c =
    let p = err_from_is_err_and c.from_residual-in_err-put.result
    c.from_residual-in_err-put.ensures.1 in
    rw (p.1, p.2) (λ e. far_item c.args.shape c.args.before.items c.args.item.now
    c.args.behind.items (c.in_err-put.ensures.far e))

pub returns-in_err-gap_behind-clause-far : goal.returns-in_err-gap_behind-clause-far
returns-in_err-gap_behind-clause-far c =
    let f1 : FitsSigned w128 c.args.shape.gap_behind = search rules in
    let p = err_from_is_err_and c.from_residual-in_err-gap_behind.result
    c.from_residual-in_err-gap_behind.ensures.1 in
    rw (p.1, p.2) (λ e. far_gap_behind c.args.shape c.args.before.items c.args.item.now
    c.args.behind.items ((simp to_z-of_z at c.in_err-gap_behind.ensures.far) e))

pub returns-in_err-behind-clause-far : goal.returns-in_err-behind-clause-far
returns-in_err-behind-clause-far c =
    let p = err_from_is_err_and c.from_residual-in_err-behind.result
    c.from_residual-in_err-behind.ensures.1 in
    rw (p.1, p.2) (λ e. far_behind c.args.shape c.args.before.items c.args.item.now
    c.args.behind.items (c.in_err-behind.ensures.far e))

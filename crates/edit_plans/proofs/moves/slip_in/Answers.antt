use Rattle.std.proofs.Common.{rules, arith, ◌≡◌, ap₂, ◌∙◌, Some, FitsSigned}
use mir.Syntax.{w128}
use Rattle.std.proofs.lemmas.Int.{to_z-of_z, ints}
use Rattle.edits.specs.Edges as edges
use Rattle.edit_plans.proofs.moves.slip_in.Goals as goal

pub returns-clause-value : goal.returns-clause-value
returns-clause-value c =
    let frame = c.ranges.frame in
    let by = c.ranges.by in
    let before : FitsSigned w128 c.args.room.before =
    omega (arith, ints, c.requires.before.low, c.requires.before.high) in
    let behind : FitsSigned w128 c.args.room.behind =
    omega (arith, ints, c.requires.behind.low, c.requires.behind.high) in
    let f1 : FitsSigned w128 c.whole_frames.result = search rules in
    let f2 : FitsSigned w128 c.whole_frames-2.result = search rules in
    let f3 : FitsSigned w128 c.clamped.result = search rules in
    let e1 : c.whole_frames.result ≡ edges.whole_frames c.args.frame c.args.room.before =
    simp to_z-of_z at c.whole_frames.ensures.value in
    let e2 : c.whole_frames-2.result ≡ edges.whole_frames c.args.frame c.args.room.behind =
    simp to_z-of_z at c.whole_frames-2.ensures.value in
    let e3 : c.clamped.result ≡ edges.clamped (Some c.whole_frames.result)
    (Some c.whole_frames-2.result) c.args.by = simp to_z-of_z at c.clamped.ensures.value in
    simp to_z-of_z (e3 ∙ ap₂ (λ p q. edges.clamped (Some p) (Some q) c.args.by) e1 e2)

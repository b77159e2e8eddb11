use Rattle.std.proofs.Common.{arith, rules, ◌∙◌, FitsSigned}
use mir.Syntax.{w64, w128}
use Rattle.std.proofs.lemmas.Int.{ints, to_z-of_z}
use Rattle.edit_plans.proofs.Retimings.{ends_at, ends_long}
use Rattle.edit_plans.proofs.retiming.ends_late.Goals as goal

pub returns : goal.returns
returns c =
    let forward = c.args.span.forward in
    let most = c.args.span.len.high in
    let low = c.args.span.start.low in
    let high = c.args.span.start.high in
    let f1 : FitsSigned w128 c.args.span.start.ticks = omega (arith, ints, low, high) in
    let f2 : FitsSigned w128 c.args.span.len.ticks = omega (arith, ints, forward, most) in
    let f3 : FitsSigned w64 c.speed.result = search rules in
    let f4 : FitsSigned w128 c.played_ticks-played.result = search rules in
    let f5 : FitsSigned w128 c.end_from.result = search rules in
    (simp to_z-of_z at c.is_far.ensures)
    ∙ ends_long c.args.item.now c.args.span c.end_from.result c.requires.thing c.requires.sound
    (omega (arith, ints, forward, most))
    (ends_at c.args.item.now c.args.span c.unsigned_abs.result c.speed.result
    c.played_ticks-played.result c.end_from.result
    (simp to_z-of_z at c.unsigned_abs.ensures.value) c.speed.ensures.value
    (simp to_z-of_z at c.played_ticks-played.ensures.value)
    (simp to_z-of_z at c.end_from.ensures))

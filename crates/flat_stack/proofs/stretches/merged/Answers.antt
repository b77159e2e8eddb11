use Rattle.std.proofs.Common.{sym, FitsSigned, rules, pos, None}
use mir.Syntax.{w128}
use Rattle.std.proofs.lemmas.Int.{to_z-of_z}
use Rattle.flat_stack.proofs.RunLemmas.{so_far_first, so_far_short, so_far_less, so_far_more, so_far_all, at_index}
use Rattle.flat_stack.proofs.stretches.merged.Goals as goal

pub stretches-init : goal.stretches-init
stretches-init c = so_far_first c.args.upper.now c.args.lower.now c.new-all.result.items c.new-all.ensures.items

pub returns-in-None : goal.returns-in-None
returns-in-None c = so_far_short c.args.upper.now c.args.lower.now c.stretches.all.items c.stretches.high c.stretches.low c.stretches.invariant c.stretches-test.true (sym c.in-None.ensures)

pub stretches-smaller : goal.stretches-smaller
stretches-smaller c =
    let fits : FitsSigned w128 c.upper_first-next.result.to = search rules in
    let high = simp to_z-of_z at c.behind-high.ensures in
    let low = simp to_z-of_z at c.behind-low.ensures in
    so_far_less c.args.upper.now c.args.lower.now c.stretches.high c.stretches.low c.behind-high.result c.behind-low.result _ c.in-Some.second c.upper_first-next.result (at_index c.args.upper.now c.stretches.high (record { to = pos 0; given = None }) c.stretches-test.true) (sym c.in-Some.ensures) c.upper_first-next.ensures high low

pub stretches-preserved : goal.stretches-preserved
stretches-preserved c =
    let fits : FitsSigned w128 c.upper_first-next.result.to = search rules in
    let high = simp to_z-of_z at c.behind-high.ensures in
    let low = simp to_z-of_z at c.behind-low.ensures in
    so_far_more c.args.upper.now c.args.lower.now c.stretches.all.items c.push.new.self.items c.stretches.high c.stretches.low c.behind-high.result c.behind-low.result _ c.in-Some.second c.upper_first-next.result c.stretches.invariant (at_index c.args.upper.now c.stretches.high (record { to = pos 0; given = None }) c.stretches-test.true) (sym c.in-Some.ensures) c.upper_first-next.ensures c.in_ok-push.ensures.items high low

pub returns : goal.returns
returns c = so_far_all c.args.upper.now c.args.lower.now c.stretches.all.items c.stretches.high c.stretches.low c.stretches.invariant c.stretches-test.false

use Rattle.std.proofs.Common.{rules, arith, FitsSigned, subst, refl, pos, ◌≤ℤ◌}
use mir.Syntax.{w128}
use Rattle.std.proofs.lemmas.Int.{to_z-of_z, ints}
use Rattle.flat.specs.Joined.{pad}
use Rattle.flat_stack.specs.declared.planned_tracks.Portion.TheVariants.{Made}
use Rattle.flat_stack.specs.Inputs.{IsAdded}
use Rattle.flat_stack.specs.Portions.{portions_items}
use Rattle.flat_stack.proofs.PortionLemmas.{portion_last}
use Rattle.flat_stack.proofs.JoinedTracks.{no_pad, one_pad}
use Rattle.flat_stack.proofs.planned_tracks.put_pad.Goals as goal

pub short_gap-requires-clause-low : goal.short_gap-requires-clause-low
short_gap-requires-clause-low c =
    let fits : FitsSigned w128 c.pad_ticks-ticks.result = search rules in
    simp to_z-of_z (omega (arith, ints, c.if-ticks-le0.false))

pub short_gap-requires-clause-high : goal.short_gap-requires-clause-high
short_gap-requires-clause-high c =
    let fits : FitsSigned w128 c.pad_ticks-ticks.result = search rules in
    simp to_z-of_z c.pad_ticks-ticks.ensures.high

pub returns-then-ticks-le0 : goal.returns-then-ticks-le0
returns-then-ticks-le0 c = λ inputs.
    let fits : FitsSigned w128 c.pad_ticks-ticks.result = search rules in
    let old = portions_items inputs c.args.all.now.items in
    let none : c.pad_ticks-ticks.result ≤ℤ pos 0 = omega (arith, ints, c.if-ticks-le0.true) in
    subst (λ n. IsAdded c.args.rate (pad n) old old) c.pad_ticks-ticks.ensures.value
    (no_pad c.args.rate c.pad_ticks-ticks.result old old none refl)

pub returns : goal.returns
returns c = λ inputs.
    let low = c.pad_ticks-ticks.ensures.low in
    let high = c.pad_ticks-ticks.ensures.high in
    let fits : FitsSigned w128 c.pad_ticks-ticks.result = omega (arith, ints, low, high) in
    let made = simp to_z-of_z at c.short_gap.ensures in
    let old = portions_items inputs c.args.all.now.items in
    let new = portions_items inputs c.push.new.self.items in
    subst (λ n. IsAdded c.args.rate (pad n) old new) c.pad_ticks-ticks.ensures.value
    (one_pad c.args.rate c.pad_ticks-ticks.result old new c.short_gap.result
    (omega (arith, ints, c.if-ticks-le0.false)) made
    (portion_last inputs c.args.all.now.items c.push.new.self.items (Made c.short_gap.result)
    c.in_ok-push.ensures.items))

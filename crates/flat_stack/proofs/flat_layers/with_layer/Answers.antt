use Rattle.std.proofs.Common.{arith, sym, ◌∙◌, FitsSigned}
use mir.Syntax.{w128}
use Rattle.std.proofs.lemmas.Int.{to_z-of_z, ints}
use Rattle.flat_stack.proofs.LayerLemmas.{longer_other, longer_more, longer_same}
use Rattle.flat_stack.proofs.flat_layers.with_layer.Goals as goal

pub returns-then-not-is_layer-clause-value : goal.returns-then-not-is_layer-clause-value
returns-then-not-is_layer-clause-value c =
    let fits = c.ranges.end in
    simp to_z-of_z (longer_other c.args.kind.now c.args.item.now c.args.end (sym c.is_layer.ensures ∙ c.if-not-is_layer.true))

pub returns-then-end-ticks-clause-value : goal.returns-then-end-ticks-clause-value
returns-then-end-ticks-clause-value c =
    let fits = c.ranges.end in
    let least = c.sound_ticks-ticks.ensures.low in
    let most = c.sound_ticks-ticks.ensures.high in
    let fits_ticks : FitsSigned w128 c.sound_ticks-ticks.result = omega (arith, ints, least, most) in
    let test = simp to_z-of_z at c.if-end-ticks.true in
    simp to_z-of_z (longer_more c.args.kind.now c.args.item.now c.args.end c.sound_ticks-ticks.result (sym c.is_layer.ensures ∙ c.if-not-is_layer.false) c.sound_ticks-ticks.ensures.value (omega (arith, ints, test)))

pub returns-clause-value : goal.returns-clause-value
returns-clause-value c =
    let fits = c.ranges.end in
    let least = c.sound_ticks-ticks.ensures.low in
    let most = c.sound_ticks-ticks.ensures.high in
    let fits_ticks : FitsSigned w128 c.sound_ticks-ticks.result = omega (arith, ints, least, most) in
    let test = simp to_z-of_z at c.if-end-ticks.false in
    simp to_z-of_z (longer_same c.args.kind.now c.args.item.now c.args.end c.sound_ticks-ticks.result c.sound_ticks-ticks.ensures.value (omega (arith, ints, test)))

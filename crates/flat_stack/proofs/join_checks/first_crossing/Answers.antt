use Rattle.std.proofs.Common.{◌≡◌, arith, to_z, suc, ◌+◌, ◌-◌, FitsSigned, ◌+ℤ◌, ◌-ℤ◌, drop, refl, length}
use mir.Syntax.{w128}
use Rattle.std.proofs.lemmas.Int.{to_z-of_z, ints}
use Rattle.otio_model.specs.Trees.{items_of}
use Rattle.otio_model.proofs.LengthLimits.{few_enough}
use Rattle.coord.specs.Sights.{overlap_of}
use Rattle.edits.specs.Edges.{added}
use Rattle.flat_stack.proofs.CrossingLemmas.{blocks_late, blocks_not, passed_more, crossing_at, rest_behind}
use Rattle.flat_stack.proofs.join_checks.first_crossing.Goals as goal

pub sound_ticks-requires : goal.sound_ticks-requires
sound_ticks-requires c = c.requires.cuttable c.children.index c.child-item.result.now c.child-item.ensures

pub overflow_add-end : goal.overflow_add-end
overflow_add-end c =
    let few = few_enough c.args.children.now c.requires.few in
    let fits : FitsSigned w128 c.sound_ticks.result = omega (arith, ints, c.sound_ticks.ensures.low, c.sound_ticks.ensures.high) in
    let fits_sum : FitsSigned w128 (to_z w128 c.children.at-bits +ℤ c.sound_ticks.result) = omega (arith, ints, few, c.children-test.true, c.len-len.ensures, c.children.invariant.low, c.children.invariant.high, c.sound_ticks.ensures.low, c.sound_ticks.ensures.high) in
    simp to_z-of_z fits_sum

pub overflow_sub-total : goal.overflow_sub-total
overflow_sub-total c =
    let few = few_enough c.args.children.now c.requires.few in
    let fits : FitsSigned w128 c.sound_ticks.result = omega (arith, ints, c.sound_ticks.ensures.low, c.sound_ticks.ensures.high) in
    let fits_total : FitsSigned w128 c.total_ticks-total.result = omega (arith, ints, c.total_ticks-total.ensures.low, c.total_ticks-total.ensures.high) in
    let fits_sum : FitsSigned w128 (to_z w128 c.children.at-bits +ℤ c.sound_ticks.result) = omega (arith, ints, few, c.children-test.true, c.len-len.ensures, c.children.invariant.low, c.children.invariant.high, c.sound_ticks.ensures.low, c.sound_ticks.ensures.high) in
    let fits_rest : FitsSigned w128 (c.total_ticks-total.result -ℤ (to_z w128 c.children.at-bits +ℤ c.sound_ticks.result)) = omega (arith, ints, few, c.children-test.true, c.len-len.ensures, c.children.invariant.low, c.children.invariant.high, c.sound_ticks.ensures.low, c.sound_ticks.ensures.high, c.total_ticks-total.ensures.low, c.total_ticks-total.ensures.high) in
    simp to_z-of_z fits_rest

pub returns-then-blocks_end-clause-found : goal.returns-then-blocks_end-clause-found
returns-then-blocks_end-clause-found c =
    let few = few_enough c.args.children.now c.requires.few in
    let at = to_z w128 c.children.at-bits in
    let fits : FitsSigned w128 c.sound_ticks.result = omega (arith, ints, c.sound_ticks.ensures.low, c.sound_ticks.ensures.high) in
    let fits_total : FitsSigned w128 c.total_ticks-total.result = omega (arith, ints, c.total_ticks-total.ensures.low, c.total_ticks-total.ensures.high) in
    let fits_sum : FitsSigned w128 (to_z w128 c.children.at-bits +ℤ c.sound_ticks.result) = omega (arith, ints, few, c.children-test.true, c.len-len.ensures, c.children.invariant.low, c.children.invariant.high, c.sound_ticks.ensures.low, c.sound_ticks.ensures.high) in
    let fits_rest : FitsSigned w128 (c.total_ticks-total.result -ℤ (to_z w128 c.children.at-bits +ℤ c.sound_ticks.result)) = omega (arith, ints, few, c.children-test.true, c.len-len.ensures, c.children.invariant.low, c.children.invariant.high, c.sound_ticks.ensures.low, c.sound_ticks.ensures.high, c.total_ticks-total.ensures.low, c.total_ticks-total.ensures.high) in
    let late = simp to_z-of_z at c.blocks_end.ensures in
    let left : (c.len-len.result - c.children.index - 1) + suc c.children.index ≡ length (items_of c.args.children.now) = omega (arith, c.children-test.true, c.len-len.ensures) in
    let rest : c.total_ticks-total.result -ℤ (at +ℤ c.sound_ticks.result) ≡ added (drop (suc c.children.index) (items_of c.args.children.now)) =
    rest_behind (items_of c.args.children.now) c.children.index at c.sound_ticks.result c.total_ticks-total.result c.child-item.result.now c.child-item.ensures c.children.invariant.start c.sound_ticks.ensures.value c.total_ticks-total.ensures.value in
    crossing_at c.args.is_first c.args.is_last (items_of c.args.children.now) c.children.index at c.child-item.result.now c.children.invariant c.child-item.ensures
    (blocks_late c.args.is_first c.args.is_last c.blocks_end.result (items_of c.args.children.now) c.children.index (c.len-len.result - c.children.index - 1) (c.total_ticks-total.result -ℤ (at +ℤ c.sound_ticks.result)) (overlap_of c.child-item.result.now) left rest late c.if-blocks_end.true)

pub children-preserved : goal.children-preserved
children-preserved c =
    let few = few_enough c.args.children.now c.requires.few in
    let at = to_z w128 c.children.at-bits in
    let fits : FitsSigned w128 c.sound_ticks.result = omega (arith, ints, c.sound_ticks.ensures.low, c.sound_ticks.ensures.high) in
    let fits_total : FitsSigned w128 c.total_ticks-total.result = omega (arith, ints, c.total_ticks-total.ensures.low, c.total_ticks-total.ensures.high) in
    let fits_sum : FitsSigned w128 (to_z w128 c.children.at-bits +ℤ c.sound_ticks.result) = omega (arith, ints, few, c.children-test.true, c.len-len.ensures, c.children.invariant.low, c.children.invariant.high, c.sound_ticks.ensures.low, c.sound_ticks.ensures.high) in
    let fits_rest : FitsSigned w128 (c.total_ticks-total.result -ℤ (to_z w128 c.children.at-bits +ℤ c.sound_ticks.result)) = omega (arith, ints, few, c.children-test.true, c.len-len.ensures, c.children.invariant.low, c.children.invariant.high, c.sound_ticks.ensures.low, c.sound_ticks.ensures.high, c.total_ticks-total.ensures.low, c.total_ticks-total.ensures.high) in
    let late = simp to_z-of_z at c.blocks_end.ensures in
    let left : (c.len-len.result - c.children.index - 1) + suc c.children.index ≡ length (items_of c.args.children.now) = omega (arith, c.children-test.true, c.len-len.ensures) in
    let rest : c.total_ticks-total.result -ℤ (at +ℤ c.sound_ticks.result) ≡ added (drop (suc c.children.index) (items_of c.args.children.now)) =
    rest_behind (items_of c.args.children.now) c.children.index at c.sound_ticks.result c.total_ticks-total.result c.child-item.result.now c.child-item.ensures c.children.invariant.start c.sound_ticks.ensures.value c.total_ticks-total.ensures.value in
    simp to_z-of_z (passed_more c.args.is_first c.args.is_last (items_of c.args.children.now) c.children.index at (at +ℤ c.sound_ticks.result) c.sound_ticks.result c.child-item.result.now c.children.invariant c.child-item.ensures
    (blocks_not c.args.is_first c.args.is_last c.blocks_start.result c.blocks_end.result (items_of c.args.children.now) c.children.index (c.len-len.result - c.children.index - 1) at (c.total_ticks-total.result -ℤ (at +ℤ c.sound_ticks.result)) (overlap_of c.child-item.result.now)
    c.children.invariant.start c.blocks_start.ensures c.if-blocks_start.false left rest late c.if-blocks_end.false)
    c.sound_ticks.ensures.value c.sound_ticks.ensures.low c.sound_ticks.ensures.high refl)

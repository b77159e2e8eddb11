use Rattle.std.proofs.Common.{arith, to_z, refl, FitsSigned, ◌+ℤ◌}
use mir.Syntax.{w128}
use Rattle.std.proofs.lemmas.Int.{to_z-of_z, ints}
use Rattle.otio_model.specs.Trees.{items_of}
use Rattle.flat_stack.proofs.WindowFaults.{passed_first, passed_more, found_uncut, all_cut}
use Rattle.flat_stack.proofs.window_faults.first_uncut.Goals as goal

pub children-init : goal.children-init
children-init c =
    let fits_from = c.ranges.from in
    let fits_to = c.ranges.to in
    simp to_z-of_z (passed_first (items_of c.args.children.now) c.args.from c.args.to)

pub is_cut-requires-clause-cuttable : goal.is_cut-requires-clause-cuttable
is_cut-requires-clause-cuttable c = c.requires.cuttable c.children.index c.child-item.result.now c.child-item.ensures

pub sound_ticks-at-requires : goal.sound_ticks-at-requires
sound_ticks-at-requires c = c.requires.cuttable c.children.index c.child-item.result.now c.child-item.ensures

pub returns-then-not-is_cut-clause-found : goal.returns-then-not-is_cut-clause-found
returns-then-not-is_cut-clause-found c =
    let fits_from = c.ranges.from in
    let fits_to = c.ranges.to in
    let test = simp to_z-of_z at c.is_cut.ensures in
    let known = simp to_z-of_z at c.children.invariant in
    found_uncut (items_of c.args.children.now) c.args.from c.args.to (to_z w128 c.children.at-bits) c.children.index c.child-item.result.now c.is_cut.result known c.child-item.ensures test c.if-not-is_cut.true

pub children-preserved : goal.children-preserved
children-preserved c =
    let fits_from = c.ranges.from in
    let fits_to = c.ranges.to in
    let test = simp to_z-of_z at c.is_cut.ensures in
    let known = simp to_z-of_z at c.children.invariant in
    let fits_ticks : FitsSigned w128 c.sound_ticks-at.result = omega (arith, ints, c.sound_ticks-at.ensures.low, c.sound_ticks-at.ensures.high) in
    let fits_sum : FitsSigned w128 (to_z w128 c.children.at-bits +ℤ c.sound_ticks-at.result) = omega (arith, ints, c.sound_ticks-at.ensures.low, c.sound_ticks-at.ensures.high, c.children.invariant.low, c.children.invariant.high) in
    simp to_z-of_z (passed_more (items_of c.args.children.now) c.args.from c.args.to (to_z w128 c.children.at-bits) (to_z w128 c.children.at-bits +ℤ c.sound_ticks-at.result) c.sound_ticks-at.result c.children.index c.child-item.result.now c.is_cut.result known c.child-item.ensures test c.if-not-is_cut.false
    c.sound_ticks-at.ensures.value (omega (arith, ints, c.sound_ticks-at.ensures.low)) (omega (arith, ints, c.sound_ticks-at.ensures.high)) refl)

pub returns-clause-none : goal.returns-clause-none
returns-clause-none c =
    let fits_from = c.ranges.from in
    let fits_to = c.ranges.to in
    let known = simp to_z-of_z at c.children.invariant in
    all_cut (items_of c.args.children.now) c.args.from c.args.to (to_z w128 c.children.at-bits) c.children.index known (omega arith)

use Rattle.std.proofs.Common.{arith, to_z, refl, drop, ap, vec_items, FitsSigned, ◌+ℤ◌, ◌-ℤ◌}
use mir.Syntax.{w128}
use Rattle.std.proofs.lemmas.Int.{to_z-of_z, ints}
use Rattle.otio_model.specs.Trees.{items_of}
use Rattle.coord.proofs.Members.{next, got_below}
use Rattle.flat_stack.proofs.PassedLemmas.{between_first, between_less, between_more, between_stop, between_all, both_cut}
use Rattle.flat_stack.proofs.windowing.window_items.Goals as goal
use Rattle.flat_stack.proofs.windowing.window_items.Goals.{then-not-is_left_out+in_ok-put_part, else-not-is_left_out}

pub children-init : goal.children-init
children-init c =
    let fits = c.ranges.from in
    let fits_to = c.ranges.to in
    simp to_z-of_z (between_first c.args.rate (items_of c.args.children.now) c.new-done.result.items (items_of c.args.children.now) c.args.from c.args.to c.new-done.ensures.items refl)

pub returns-then-at-to : goal.returns-then-at-to
returns-then-at-to c =
    let fits = c.ranges.from in
    let fits_to = c.ranges.to in
    let known = simp to_z-of_z at c.children.invariant in
    between_stop c.args.rate (items_of c.args.children.now) (drop c.children.index (items_of c.args.children.now)) c.children.done.items c.args.from c.args.to (to_z w128 c.children.at-bits) c.children.index known (omega (arith, ints))

pub put_part-requires-clause-cuttable : goal.put_part-requires-clause-cuttable
put_part-requires-clause-cuttable c = c.requires.cuttable c.children.index c.child-item.result.now c.child-item.ensures

pub put_part-requires-clause-first : goal.put_part-requires-clause-first
put_part-requires-clause-first c =
    let fits = c.ranges.from in
    let fits_to = c.ranges.to in
    let low = c.children.invariant.low in
    let high = c.children.invariant.high in
    let fits_first : FitsSigned w128 (c.args.from -ℤ to_z w128 c.children.at-bits) = omega (arith, ints, low, high, c.requires.low, c.requires.wide, c.requires.high) in
    let cut = c.requires.cut c.children.index c.child-item.result.now (got_below (items_of c.args.children.now) c.children.index c.child-item.result.now c.child-item.ensures) c.child-item.ensures in
    simp to_z-of_z (both_cut (items_of c.args.children.now) c.args.from c.args.to (to_z w128 c.children.at-bits) c.children.index c.child-item.result.now cut c.children.invariant.start).0

pub put_part-requires-clause-last : goal.put_part-requires-clause-last
put_part-requires-clause-last c =
    let fits = c.ranges.from in
    let fits_to = c.ranges.to in
    let low = c.children.invariant.low in
    let high = c.children.invariant.high in
    let fits_last : FitsSigned w128 (c.args.to -ℤ to_z w128 c.children.at-bits) = omega (arith, ints, low, high, c.requires.low, c.requires.wide, c.requires.high) in
    let cut = c.requires.cut c.children.index c.child-item.result.now (got_below (items_of c.args.children.now) c.children.index c.child-item.result.now c.child-item.ensures) c.child-item.ensures in
    simp to_z-of_z (both_cut (items_of c.args.children.now) c.args.from c.args.to (to_z w128 c.children.at-bits) c.children.index c.child-item.result.now cut c.children.invariant.start).1

pub sound_ticks-at-requires : goal.sound_ticks-at-requires
sound_ticks-at-requires c = c.requires.cuttable c.children.index c.child-item.result.now c.child-item.ensures

pub children-preserved : goal.children-preserved
children-preserved c =
    let fits = c.ranges.from in
    let fits_to = c.ranges.to in
    let low = c.children.invariant.low in
    let high = c.children.invariant.high in
    let fits_first : FitsSigned w128 (c.args.from -ℤ to_z w128 c.children.at-bits) = omega (arith, ints, low, high, c.requires.low, c.requires.wide, c.requires.high) in
    let fits_last : FitsSigned w128 (c.args.to -ℤ to_z w128 c.children.at-bits) = omega (arith, ints, low, high, c.requires.low, c.requires.wide, c.requires.high) in
    let known = simp to_z-of_z at c.children.invariant in
    let test = simp to_z-of_z at c.is_left_out.ensures in
    let step = next (items_of c.args.children.now) c.children.index c.child-item.result.now c.child-item.ensures in
    elim c.if-not-is_left_out.branch [
      | then-not-is_left_out+in_ok-put_part w ↦
          let put = simp to_z-of_z at w.in_ok-put_part.ensures in
          let least = w.sound_ticks-at.ensures.low in
          let most = w.sound_ticks-at.ensures.high in
          let fits_ticks : FitsSigned w128 w.sound_ticks-at.result = omega (arith, ints, least, most) in
          let fits_sum : FitsSigned w128 (to_z w128 c.children.at-bits +ℤ w.sound_ticks-at.result) = omega (arith, ints, least, most, low, high) in
          let at_is = simp to_z-of_z at w.at-is in
          simp to_z-of_z (between_more c.args.rate (items_of c.args.children.now) _ _ c.children.done.items w.put_part.new.all.items c.if-not-is_left_out.done.items c.args.from c.args.to (to_z w128 c.children.at-bits) (to_z w128 c.if-not-is_left_out.at-bits) w.sound_ticks-at.result c.children.index c.child-item.result.now c.is_left_out.result
          known step c.child-item.ensures test w.if-not-is_left_out.true (omega (arith, ints)) put (ap vec_items w.done-is) w.sound_ticks-at.ensures.value (omega (arith, ints, least)) (omega (arith, ints, most)) at_is)
      | else-not-is_left_out w ↦
          simp to_z-of_z (between_less c.args.rate (items_of c.args.children.now) _ _ c.children.done.items c.if-not-is_left_out.done.items c.args.from c.args.to (to_z w128 c.children.at-bits) (to_z w128 c.if-not-is_left_out.at-bits) c.children.index c.child-item.result.now c.is_left_out.result
          known step c.child-item.ensures test w.if-not-is_left_out.false (ap vec_items w.done-is) w.at-is)
    ]

pub returns : goal.returns
returns c =
    let fits = c.ranges.from in
    let fits_to = c.ranges.to in
    let known = simp to_z-of_z at c.children.invariant in
    between_all c.args.rate (items_of c.args.children.now) c.children.done.items c.args.from c.args.to (to_z w128 c.children.at-bits) c.children.index known (omega arith)

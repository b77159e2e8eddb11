use Rattle.std.proofs.Common.{arith, rules, sym, subst, ap, ◌∙◌, ◌++◌, ◌∷◌, [], FitsSigned, pos, to_z, vec_items}
use mir.Syntax.{w128}
use Rattle.std.proofs.lemmas.Int.{to_z-of_z, ints}
use Rattle.otio_model.specs.Trees.{items_of}
use Rattle.flat_stack.specs.Runs.{IsAlong}
use Rattle.flat_stack.proofs.LayerLemmas.{along_first, along_empty, along_more, along_last, along_all, sum_fits}
use Rattle.flat_stack.proofs.stretches.track_stretches.Goals.{then-ticks-gt0+else-at-ticks+in_ok-push-2, else-ticks-gt0}
use Rattle.flat_stack.proofs.stretches.track_stretches.Goals as goal

pub children-init : goal.children-init
children-init c =
    let fits = c.ranges.end in
    simp to_z-of_z (subst (λ m. IsAlong c.args.track (items_of c.args.children.now) c.args.end m (pos 0) 0) (sym c.new-all.ensures.items) (along_first c.args.track (items_of c.args.children.now) c.args.end c.requires.low))

pub sound_ticks-ticks-requires : goal.sound_ticks-ticks-requires
sound_ticks-ticks-requires c = c.requires.cuttable c.children.index c.child-item.result.now c.child-item.ensures

pub overflow_add-at : goal.overflow_add-at
overflow_add-at c =
    let fits = c.ranges.end in
    let fits_ticks : FitsSigned w128 c.sound_ticks-ticks.result = search rules in
    let known = simp to_z-of_z at c.children.invariant in
    let fits_sum = sum_fits known c.requires.high c.sound_ticks-ticks.ensures.low c.sound_ticks-ticks.ensures.high in
    simp to_z-of_z fits_sum

pub overflow_add-at-then-ticks-gt0 : goal.overflow_add-at-then-ticks-gt0
overflow_add-at-then-ticks-gt0 c =
    let fits = c.ranges.end in
    let fits_ticks : FitsSigned w128 c.sound_ticks-ticks.result = search rules in
    let known = simp to_z-of_z at c.children.invariant in
    let fits_sum = sum_fits known c.requires.high c.sound_ticks-ticks.ensures.low c.sound_ticks-ticks.ensures.high in
    simp to_z-of_z fits_sum

pub returns-then-at-ticks : goal.returns-then-at-ticks
returns-then-at-ticks c =
    let fits = c.ranges.end in
    let fits_ticks : FitsSigned w128 c.sound_ticks-ticks.result = search rules in
    let known = simp to_z-of_z at c.children.invariant in
    let fits_sum = sum_fits known c.requires.high c.sound_ticks-ticks.ensures.low c.sound_ticks-ticks.ensures.high in
    let test = simp to_z-of_z at c.if-at-ticks.true in
    let pushed = simp to_z-of_z at c.in_ok-push.ensures.items in
    along_last c.args.track (items_of c.args.children.now) c.args.end (to_z w128 c.children.at-bits) c.sound_ticks-ticks.result c.children.index c.child-item.result.now c.children.all.items c.push.new.self.items c.given_by-given.result known c.child-item.ensures c.sound_ticks-ticks.ensures.value (omega (arith, ints, test)) c.given_by-given.ensures pushed

pub children-preserved : goal.children-preserved
children-preserved c =
    let fits = c.ranges.end in
    let fits_ticks : FitsSigned w128 c.sound_ticks-ticks.result = search rules in
    let known = simp to_z-of_z at c.children.invariant in
    let fits_sum = sum_fits known c.requires.high c.sound_ticks-ticks.ensures.low c.sound_ticks-ticks.ensures.high in
    elim c.if-ticks-gt0.branch [
      | then-ticks-gt0+else-at-ticks+in_ok-push-2 w ↦
          let test = simp to_z-of_z at w.if-at-ticks.false in
          let positive = simp to_z-of_z at w.if-ticks-gt0.true in
          let now = simp to_z-of_z at w.at-is in
          let pushed = simp to_z-of_z at w.in_ok-push-2.ensures.items in
          simp to_z-of_z (along_more c.args.track (items_of c.args.children.now) c.args.end (to_z w128 c.children.at-bits) c.sound_ticks-ticks.result (to_z w128 c.if-ticks-gt0.at-bits) c.children.index c.child-item.result.now c.children.all.items c.if-ticks-gt0.all.items w.given_by-given.result known c.child-item.ensures c.sound_ticks-ticks.ensures.value (omega (arith, ints, positive)) (omega (arith, ints, test)) w.given_by-given.ensures now
          (ap vec_items w.all-is ∙ pushed ∙ ap (λ z. c.children.all.items ++ record { to = z; given = w.given_by-given.result } ∷ []) (sym now)))
      | else-ticks-gt0 w ↦
          let none = simp to_z-of_z at w.if-ticks-gt0.false in
          simp to_z-of_z (along_empty c.args.track (items_of c.args.children.now) c.args.end (to_z w128 c.children.at-bits) c.sound_ticks-ticks.result (to_z w128 c.if-ticks-gt0.at-bits) c.children.index c.child-item.result.now c.children.all.items c.if-ticks-gt0.all.items known c.child-item.ensures c.sound_ticks-ticks.ensures.value (omega (arith, ints, none)) (ap vec_items w.all-is) w.at-is)
    ]

pub returns : goal.returns
returns c =
    let fits = c.ranges.end in
    let known = simp to_z-of_z at c.children.invariant in
    let pushed = simp to_z-of_z at c.in_ok-push-3.ensures.items in
    along_all c.args.track (items_of c.args.children.now) c.args.end (to_z w128 c.children.at-bits) c.children.index c.children.all.items c.push-2.new.self.items known (omega arith) pushed

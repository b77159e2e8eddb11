-- The back comes of the children that don't end before the zone does.
use Rattle.std.proofs.Common.{arith, sym, subst, ◌∙◌, IfOk, Some, ◌≡◌}
use Rattle.std.proofs.lemmas.Int.{ints}
use Rattle.otio_model.specs.Trees.{items_of}
use Rattle.otio_model.proofs.LengthLimits.{few_enough}
use Rattle.edits.specs.Children.{all_made}
use Rattle.pieces.specs.Short.{AreCuttable}
use Rattle.edit_plans.proofs.EndLemmas.{back_same, ended_bounds}
use Rattle.edit_plans.proofs.zone_ends.zone_back.Goals as goal

pub overflow_add-late : goal.overflow_add-late
overflow_add-late c =
    let z = c.args.zone in
    let near = ended_bounds (items_of c.args.children.now) c.args.stretch.at c.args.stretch.count
    c.ended_before-ended.result.count _ c.ended_before-ended.result.ticks
    c.ended_before-ended.ensures c.requires.there (omega (arith, ints, z.low, z.forward, z.high)) in
    omega (arith, near.0, c.requires.there, few_enough c.args.children.now c.requires.few)

pub overflow_sub-from : goal.overflow_sub-from
overflow_sub-from c =
    let z = c.args.zone in
    let near = ended_bounds (items_of c.args.children.now) c.args.stretch.at c.args.stretch.count
    c.ended_before-ended.result.count _ c.ended_before-ended.result.ticks
    c.ended_before-ended.ensures c.requires.there (omega (arith, ints, z.low, z.forward, z.high)) in
    omega (arith, ints, near.1, near.2, z.low, z.forward, z.high)

pub overflow_sub-to : goal.overflow_sub-to
overflow_sub-to c =
    let z = c.args.zone in
    let near = ended_bounds (items_of c.args.children.now) c.args.stretch.at c.args.stretch.count
    c.ended_before-ended.result.count _ c.ended_before-ended.result.ticks
    c.ended_before-ended.ensures c.requires.there (omega (arith, ints, z.low, z.forward, z.high)) in
    omega (arith, ints, near.1, near.2, z.low, z.forward, z.high)

pub back_items-back-requires-clause-low : goal.back_items-back-requires-clause-low
back_items-back-requires-clause-low c =
    let z = c.args.zone in
    let near = ended_bounds (items_of c.args.children.now) c.args.stretch.at c.args.stretch.count
    c.ended_before-ended.result.count _ c.ended_before-ended.result.ticks
    c.ended_before-ended.ensures c.requires.there (omega (arith, ints, z.low, z.forward, z.high)) in
    omega (arith, ints, near.1, near.2, z.low, z.forward, z.high)

pub back_items-back-requires-clause-faultless : goal.back_items-back-requires-clause-faultless
back_items-back-requires-clause-faultless c =
    subst AreCuttable (sym c.as_slice.ensures.value) c.in-Ok.ensures.faultless

pub returns-in-Ok : goal.returns-in-Ok
returns-in-Ok c =
    let z = c.args.zone in
    let near = ended_bounds (items_of c.args.children.now) c.args.stretch.at c.args.stretch.count
    c.ended_before-ended.result.count _ c.ended_before-ended.result.ticks
    c.ended_before-ended.ensures c.requires.there (omega (arith, ints, z.low, z.forward, z.high)) in
    subst (λ k. IfOk c.back_items-back.result (λ made. all_made c.args.rate k ≡ Some made.items))
    (back_same (items_of c.args.children.now) c.as_slice.result.now c.args.stretch.at
    c.args.stretch.count c.ended_before-ended.result.count z.from z.to _ _ _ _
    c.ended_before-ended.result.ticks c.ended_before-ended.ensures c.requires.there
    (c.as_slice.ensures.value ∙ c.in-Ok.ensures.made)
    (omega (arith, ints, z.low, z.forward, z.high))
    (omega (arith, ints, near.1, near.2, z.low, z.forward, z.high))
    (omega (arith, ints, near.1, near.2, z.low, z.forward, z.high))
    (omega (arith, ints, near.1, near.2, z.low, z.forward, z.high)))
    c.back_items-back.ensures

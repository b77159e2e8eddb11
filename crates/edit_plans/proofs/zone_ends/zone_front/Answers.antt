-- The front comes of the children that end before the zone begins, and the next one.
use Rattle.std.proofs.Common.{arith, sym, subst, ◌∙◌, IfOk, IfErr, Some, ◌≡◌, true}
use Rattle.std.proofs.lemmas.Int.{ints}
use Rattle.otio_model.specs.Trees.{items_of}
use Rattle.otio_model.proofs.LengthLimits.{few_enough}
use Rattle.edits.specs.Children.{all_made, has_far}
use Rattle.pieces.specs.Short.{AreCuttable}
use Rattle.pieces.specs.declared.new_ranges.RangedFault.{RangedFault}
use Rattle.edit_plans.proofs.EndLemmas.{ended_bounds, front_same}
use Rattle.edit_plans.proofs.ZoneLemmas.{short_all}
use Rattle.edit_plans.proofs.zone_ends.zone_front.Goals as goal

pub overflow_add-ended : goal.overflow_add-ended
overflow_add-ended c =
    let z = c.args.zone in
    let near = ended_bounds (items_of c.args.children.now) c.args.stretch.at c.args.stretch.count
    c.ended_before-ended.result.count _ c.ended_before-ended.result.ticks
    c.ended_before-ended.ensures c.requires.there (omega (arith, ints, z.low, z.forward, z.high)) in
    omega (arith, near.0, c.requires.there, few_enough c.args.children.now c.requires.few)

pub front_items-front-requires-clause-short : goal.front_items-front-requires-clause-short
front_items-front-requires-clause-short c =
    short_all _ (subst AreCuttable (sym c.as_slice.ensures.value) c.in-Ok.ensures.faultless)

pub returns-in-Ok-clause-made : goal.returns-in-Ok-clause-made
returns-in-Ok-clause-made c =
    let z = c.args.zone in
    subst (λ k. IfOk c.front_items-front.result (λ made. all_made c.args.rate k ≡ Some made.items))
    (front_same (items_of c.args.children.now) c.as_slice.result.now c.args.stretch.at
    c.args.stretch.count c.min.result c.ended_before-ended.result.count z.from z.to _ _ _ _
    c.ended_before-ended.result.ticks c.ended_before-ended.ensures (omega (arith, c.min.ensures))
    c.requires.there (c.as_slice.ensures.value ∙ c.in-Ok.ensures.made)
    (omega (arith, ints, z.low, z.forward, z.high)) (omega (arith, ints, z.low, z.forward, z.high))
    (omega (arith, ints, z.low, z.forward, z.high)) (omega (arith, ints, z.low, z.forward, z.high)))
    c.front_items-front.ensures.made

pub returns-in-Ok-clause-far : goal.returns-in-Ok-clause-far
returns-in-Ok-clause-far c =
    let z = c.args.zone in
    subst (λ k. IfErr c.front_items-front.result
    (λ fault. fault ≡ RangedFault.Range → has_far k ≡ true))
    (front_same (items_of c.args.children.now) c.as_slice.result.now c.args.stretch.at
    c.args.stretch.count c.min.result c.ended_before-ended.result.count z.from z.to _ _ _ _
    c.ended_before-ended.result.ticks c.ended_before-ended.ensures (omega (arith, c.min.ensures))
    c.requires.there (c.as_slice.ensures.value ∙ c.in-Ok.ensures.made)
    (omega (arith, ints, z.low, z.forward, z.high)) (omega (arith, ints, z.low, z.forward, z.high))
    (omega (arith, ints, z.low, z.forward, z.high)) (omega (arith, ints, z.low, z.forward, z.high)))
    c.front_items-front.ensures.far

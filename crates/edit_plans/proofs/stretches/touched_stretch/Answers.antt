use Rattle.std.proofs.Common.{arith, to_z, of_z}
use mir.Syntax.{w128}
use Rattle.std.proofs.lemmas.Int.{ints}
use Rattle.otio_model.specs.Trees.{items_of}
use Rattle.otio_model.proofs.LengthLimits.{few_enough}
use Rattle.edit_plans.proofs.ZoneLemmas.{short_all, zone_low, ahead_short, touched_as}
use Rattle.edit_plans.proofs.stretches.touched_stretch.Goals as goal

pub ahead-first-requires-clause-short : goal.ahead-first-requires-clause-short
ahead-first-requires-clause-short c =
    short_all (items_of c.args.children.now) c.requires.faultless

pub touched-count-requires-clause-short : goal.touched-count-requires-clause-short
touched-count-requires-clause-short c =
    short_all (items_of c.args.children.now) c.requires.faultless

pub zone_from-requires-clause-low : goal.zone_from-requires-clause-low
zone_from-requires-clause-low c =
    let bounds = ahead_short (items_of c.args.children.now) _ _ c.ahead-first.result.ticks
    c.requires.faultless c.ahead-first.ensures.ticks in
    omega (arith, ints, bounds.0, bounds.1, few_enough c.args.children.now c.requires.few)

pub zone_from-requires-clause-high : goal.zone_from-requires-clause-high
zone_from-requires-clause-high c =
    let z = c.args.zone in
    let bounds = ahead_short (items_of c.args.children.now) _ _ c.ahead-first.result.ticks
    c.requires.faultless c.ahead-first.ensures.ticks in
    let low = zone_low (items_of c.args.children.now) (to_z w128 (of_z w128 z.from))
    (to_z w128 (of_z w128 z.to)) (omega (arith, ints, z.low, z.forward, z.high))
    (omega (arith, ints, z.low, z.forward, z.high)) in
    let t = c.ahead-first.ensures.ticks in
    omega (
      arith,
      ints,
      bounds.0,
      bounds.1,
      few_enough c.args.children.now c.requires.few,
      low,
      t,
      z.low,
      z.forward,
      z.high,
    )

pub returns : goal.returns
returns c =
    let z = c.args.zone in
    let bounds = ahead_short (items_of c.args.children.now) _ _ c.ahead-first.result.ticks
    c.requires.faultless c.ahead-first.ensures.ticks in
    let t = c.ahead-first.ensures.ticks in
    let few = few_enough c.args.children.now c.requires.few in
    let from = c.zone_from.ensures.from in
    let to = c.zone_from.ensures.to in
    touched_as (items_of c.args.children.now) z c.zone_from.result _ _ _
    (omega (arith, ints, z.low, z.forward, z.high)) (omega (arith, ints, z.low, z.forward, z.high))
    c.ahead-first.ensures.count c.touched-count.ensures
    (omega (arith, ints, bounds.0, bounds.1, few, t, from, z.low, z.forward, z.high))
    (omega (arith, ints, bounds.0, bounds.1, few, t, to, z.low, z.forward, z.high))

use Rattle.std.proofs.Common.{arith, refl, rules, FitsSigned}
use mir.Syntax.{w128}
use Rattle.std.proofs.lemmas.Int.{ints, to_z-of_z}
use Rattle.otio_model.specs.Trees.{items_of}
use Rattle.otio_model.proofs.LengthLimits.{few_enough}
use Rattle.pieces.proofs.StripLemmas.{near_start}
use Rattle.edit_plans.proofs.ZoneLemmas.{kept_below, kept_long}
use Rattle.edit_trim.proofs.Ranges.{unstripped_all, unstripped_more}
use Rattle.edit_trim.proofs.retimes.strips_none.Goals as goal

pub overflow_add-index-end : goal.overflow_add-index-end
overflow_add-index-end c =
    omega (arith, few_enough c.args.children.now c.requires.few, c.requires.there)

pub is_stripped-requires-clause-high : goal.is_stripped-requires-clause-high
is_stripped-requires-clause-high c =
    let few = few_enough c.args.children.now c.requires.few in
    near_start _ _ _ _ _ _ _ c.children.invariant.is
    (kept_long (items_of c.args.children.now) c.args.stretch.at c.args.stretch.count
    c.requires.faultless (omega (arith, few, c.requires.there)))

pub sound_ticks-start-requires : goal.sound_ticks-start-requires
sound_ticks-start-requires c =
    c.requires.faultless c.children.index c.child-item.result.now c.child-item.ensures

pub overflow_add-start : goal.overflow_add-start
overflow_add-start c =
    let near = kept_below c.args.children.now _ c.args.stretch.at
    c.args.stretch.count c.children.index _ _ _ c.child-item.result.now c.requires.few
    c.requires.faultless c.requires.there c.children.invariant (omega (arith, c.children-test.true))
    c.child-item.ensures in
    let low = c.children.invariant.is.low in
    omega (
      arith,
      ints,
      near,
      low,
      c.sound_ticks-start.ensures.value,
      c.sound_ticks-start.ensures.low,
      c.sound_ticks-start.ensures.high,
    )

pub children-preserved : goal.children-preserved
children-preserved c =
    let near = kept_below c.args.children.now _ c.args.stretch.at
    c.args.stretch.count c.children.index _ _ _ c.child-item.result.now c.requires.few
    c.requires.faultless c.requires.there c.children.invariant (omega (arith, c.children-test.true))
    c.child-item.ensures in
    let low = c.children.invariant.is.low in
    let from : FitsSigned w128 c.args.zone.from = search rules in
    let to : FitsSigned w128 c.args.zone.to = search rules in
    unstripped_more (items_of c.args.children.now) c.args.stretch.at c.args.stretch.count
    c.children.index _ _ _ _ _ c.child-item.result.now c.is_stripped.result c.children.invariant
    (omega (arith, c.children-test.true)) c.child-item.ensures (simp to_z-of_z at c.is_stripped.ensures)
    c.if-is_stripped.false
    (omega (
      arith,
      ints,
      near,
      low,
      c.sound_ticks-start.ensures.value,
      c.sound_ticks-start.ensures.low,
      c.sound_ticks-start.ensures.high,
    )) (omega arith)

pub returns : goal.returns
returns c = λ _. unstripped_all (items_of c.args.children.now) c.args.stretch.at
    c.args.stretch.count c.children.index _ _ c.args.zone.from c.args.zone.to _ c.children.invariant
    (omega (arith, c.children-test.false, c.children.auto.index-end, c.children.auto.index))
    refl refl

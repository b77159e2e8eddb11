-- A child more, or the first that doesn't end before the instant.
use Rattle.std.proofs.Common.{arith, refl}
use Rattle.std.proofs.lemmas.Int.{ints}
use Rattle.otio_model.specs.Trees.{items_of}
use Rattle.otio_model.proofs.LengthLimits.{few_enough}
use Rattle.edit_plans.proofs.EndLemmas.{ended_here, in_stretch, passed_short}
use Rattle.edit_plans.proofs.Further.{passed-next}
use Rattle.edit_plans.proofs.zone_ends.ended_before.Goals as goal

pub overflow_add-stretch : goal.overflow_add-stretch
overflow_add-stretch c =
    let few = few_enough c.args.children.now c.requires.few in
    omega (arith, few, c.requires.there, c.children-test.true)

pub sound_ticks-requires : goal.sound_ticks-requires
sound_ticks-requires c = c.requires.faultless _ c.child.result.now c.child.ensures

pub overflow_add-end : goal.overflow_add-end
overflow_add-end c =
    let near = passed_short c.args.children.now c.args.stretch.at c.args.stretch.count
    c.children.passed.count _ c.requires.few c.requires.faultless c.requires.there
    c.children.invariant.passed c.children-test.true in
    let long = c.sound_ticks.ensures in
    omega (arith, ints, near.0, near.1, long.value, long.low, long.high)

pub returns-then-end-instant : goal.returns-then-end-instant
returns-then-end-instant c =
    let near = passed_short c.args.children.now c.args.stretch.at c.args.stretch.count
    c.children.passed.count _ c.requires.few c.requires.faultless c.requires.there
    c.children.invariant.passed c.children-test.true in
    let long = c.sound_ticks.ensures in
    let here = in_stretch (items_of c.args.children.now) c.args.stretch.at c.args.stretch.count
    c.children.passed.count c.child.result.now c.child.ensures c.children-test.true in
    ended_here _ c.args.instant _ _ _ c.child.result.now c.children.invariant.passed
    (λ k. let e = c.children.invariant.early k in omega (arith, ints, e, c.ranges.instant)) here refl
    (omega (
      arith,
      ints,
      near.0,
      near.1,
      long.value,
      long.low,
      long.high,
      c.if-end-instant.true,
      c.ranges.instant,
    ))

pub children-preserved : goal.children-preserved
children-preserved c =
    let near = passed_short c.args.children.now c.args.stretch.at c.args.stretch.count
    c.children.passed.count _ c.requires.few c.requires.faultless c.requires.there
    c.children.invariant.passed c.children-test.true in
    let long = c.sound_ticks.ensures in
    let here = in_stretch (items_of c.args.children.now) c.args.stretch.at c.args.stretch.count
    c.children.passed.count c.child.result.now c.child.ensures c.children-test.true in
    record {
      passed = passed-next _ _ _ _ _ c.child.result.now c.children.invariant.passed here refl
          (omega (arith, ints, near.0, near.1, long.value, long.low, long.high));
      early = λ _. omega (arith, ints, near.0, near.1, long.value, long.low, long.high, c.if-end-instant.false, c.ranges.instant);
    }

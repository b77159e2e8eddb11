use Rattle.std.proofs.Common.{arith, refl, to_z, of_z}
use mir.Syntax.{w128}
use Rattle.std.proofs.lemmas.Int.{ints}
use Rattle.otio_model.specs.Trees.{items_of}
use Rattle.coord.proofs.Members.{next}
use Rattle.edit_plans.proofs.Further.{met-as, pass-further, passed-near, passed-next}
use Rattle.edit_plans.proofs.Passing.{end_count, end_ticks, met_count, met_ticks, pass_clear}
use Rattle.edit_plans.proofs.Passing.{pass_next}
use Rattle.edit_plans.proofs.touched_children.ahead.Goals as goal

pub children-init : goal.children-init
children-init c =
    let clear = pass_clear (items_of c.args.children.now) (to_z w128 (of_z w128 c.args.from))
    (to_z w128 (of_z w128 c.args.to)) _ c.clear.result.ticks c.clear.result.ticks
    c.clear.result.count c.clear.ensures refl refl c.requires.short in (
      c.further-passed.ensures.passed,
      pass-further (items_of c.args.children.now) _ _ c.clear.result.ticks
          c.further-passed.result.ticks c.clear.result.count c.further-passed.result.count
          c.requires.short c.further-passed.ensures clear,
    )

pub is_met-requires-clause-high : goal.is_met-requires-clause-high
is_met-requires-clause-high c =
    let near = passed-near c.args.children.now c.children.passed.count c.children.passed.ticks
    c.requires.few c.requires.short c.children.invariant.0 in
    omega (arith, ints, near.0, near.1)

pub is_met-requires-clause-short : goal.is_met-requires-clause-short
is_met-requires-clause-short c =
    c.requires.short c.children.passed.count c.child-item.result.now c.child-item.ensures

pub returns-then-is_met-clause-count : goal.returns-then-is_met-clause-count
returns-then-is_met-clause-count c =
    let near = passed-near c.args.children.now c.children.passed.count c.children.passed.ticks
    c.requires.few c.requires.short c.children.invariant.0 in
    met_count (items_of c.args.children.now) _ _ _ _ c.args.from c.args.to c.children.passed.ticks
    c.children.passed.count c.child-item.result.now c.is_met.result c.children.invariant.1
    (next (items_of c.args.children.now) c.children.passed.count _ c.child-item.ensures)
    (met-as c.child-item.result.now _ _ _ c.children.passed.ticks _ c.is_met.ensures
    (omega (arith, ints, near.0, near.1)))
    c.if-is_met.true (omega (arith, ints, c.ranges.from)) (omega (arith, ints, c.ranges.to))

pub returns-then-is_met-clause-ticks : goal.returns-then-is_met-clause-ticks
returns-then-is_met-clause-ticks c =
    let near = passed-near c.args.children.now c.children.passed.count c.children.passed.ticks
    c.requires.few c.requires.short c.children.invariant.0 in
    met_ticks (items_of c.args.children.now) _ _ _ _ c.args.from c.args.to c.children.passed.ticks
    c.children.passed.count c.child-item.result.now c.is_met.result c.children.invariant.1
    (next (items_of c.args.children.now) c.children.passed.count _ c.child-item.ensures)
    (met-as c.child-item.result.now _ _ _ c.children.passed.ticks _ c.is_met.ensures
    (omega (arith, ints, near.0, near.1)))
    c.if-is_met.true (omega (arith, ints, c.ranges.from)) (omega (arith, ints, c.ranges.to))

pub ticks_of-requires : goal.ticks_of-requires
ticks_of-requires c =
    c.requires.short c.children.passed.count c.child-item.result.now c.child-item.ensures

pub overflow_add-next-in-children : goal.overflow_add-next-in-children
overflow_add-next-in-children c =
    let near = passed-near c.args.children.now c.children.passed.count c.children.passed.ticks
    c.requires.few c.requires.short c.children.invariant.0 in
    omega (arith, ints, near.0, near.1, c.ticks_of.ensures.low, c.ticks_of.ensures.high)

pub further-passed-requires-in-children-clause-passed :
    goal.further-passed-requires-in-children-clause-passed
further-passed-requires-in-children-clause-passed c =
    let near = passed-near c.args.children.now c.children.passed.count c.children.passed.ticks
    c.requires.few c.requires.short c.children.invariant.0 in
    let t = c.ticks_of.ensures in
    passed-next (items_of c.args.children.now) c.children.passed.count _ c.children.passed.ticks _
    c.child-item.result.now c.children.invariant.0 c.child-item.ensures refl
    (omega (arith, ints, near.0, near.1, t.value, t.low, t.high))

pub children-preserved : goal.children-preserved
children-preserved c =
    let near = passed-near c.args.children.now c.children.passed.count c.children.passed.ticks
    c.requires.few c.requires.short c.children.invariant.0 in
    let t = c.ticks_of.ensures in
    let short = c.requires.short c.children.passed.count _ c.child-item.ensures in
    let all = c.further-passed-in-children.ensures in (
      all.passed,
      pass-further (items_of c.args.children.now) _ _ _ _ _ _ c.requires.short all
          (pass_next (items_of c.args.children.now) _ _ _ _ c.children.passed.ticks _
          c.children.passed.count c.child-item.result.now c.is_met.result c.children.invariant.1
          (next (items_of c.args.children.now) c.children.passed.count _ c.child-item.ensures)
          (met-as c.child-item.result.now _ _ _ c.children.passed.ticks _ c.is_met.ensures
          (omega (arith, ints, near.0, near.1)))
          c.if-is_met.false (omega (arith, ints, near.0, near.1, t.value, t.low, t.high))
          (omega (arith, ints)) short.short),
    )

pub returns-clause-count : goal.returns-clause-count
returns-clause-count c =
    end_count (items_of c.args.children.now) _ _ c.args.from c.args.to c.children.passed.ticks
    c.children.passed.count _ c.children.invariant.1
    (omega (arith, c.len.ensures, c.children-test.false)) refl
    (omega (arith, ints, c.ranges.from)) (omega (arith, ints, c.ranges.to))

pub returns-clause-ticks : goal.returns-clause-ticks
returns-clause-ticks c =
    end_ticks (items_of c.args.children.now) _ _ c.args.from c.args.to c.children.passed.ticks
    c.children.passed.count c.children.invariant.1
    (omega (arith, c.len.ensures, c.children-test.false))
    (omega (arith, ints, c.ranges.from)) (omega (arith, ints, c.ranges.to))

use Rattle.std.proofs.Common.{◌≡◌, arith, refl, sym, to_z, of_z, ap, ap₂, ◌∙◌, ◌-◌, ◌-ℤ◌}
use Rattle.std.proofs.Common.{◌+◌, length}
use Rattle.std.specs.Prelude.{int_lt}
use mir.Syntax.{w128}
use Rattle.std.proofs.lemmas.Int.{ints}
use Rattle.otio_model.specs.Trees.{items_of}
use Rattle.edits.specs.Narrow.{touched}
use Rattle.coord.proofs.Members.{next}
use Rattle.edit_plans.proofs.Further.{ahead-passed, met-as, passed-near, passed-next}
use Rattle.edit_plans.proofs.Further.{reach-child, reach-further, reach-started}
use Rattle.edit_plans.proofs.Passing.{reach_end, reach_over}
use Rattle.edit_plans.proofs.touched_children.touched.Goals as goal

pub started-passed-requires-clause-ahead : goal.started-passed-requires-clause-ahead
started-passed-requires-clause-ahead c =
    ahead-passed (items_of c.args.children.now) c.args.from c.args.to c.args.ahead.ticks
    c.args.ahead.count c.requires.count c.requires.ticks

pub children-init : goal.children-init
children-init c =
    let s = c.started-passed.ensures in (
      s.passed,
      s.order,
      reach-started (items_of c.args.children.now) _ _ _ c.args.from c.args.to c.args.ahead.count
          c.started-passed.result.count _ c.requires.short c.requires.count s
          (omega (arith, ints, c.ranges.from)) (omega (arith, ints, c.ranges.to)) refl,
    )

pub returns-then-to-passed : goal.returns-then-to-passed
returns-then-to-passed c =
    let near = passed-near c.args.children.now c.children.passed.count c.children.passed.ticks
    c.requires.few c.requires.short c.children.invariant.0 in
    let reach = c.reach-reach.ensures.value in
    let short = c.reach-reach.ensures.high in
    reach_over _ (items_of c.args.children.now) _ _ c.children.passed.ticks
    (to_z w128 (of_z w128 c.args.to)) (to_z w128 (of_z w128 (to_z w128 (of_z w128
    c.children.passed.ticks) -ℤ to_z w128 (of_z w128 c.reach-reach.result))))
    (c.children.passed.count - c.args.ahead.count) c.children.count c.children.passed.count
    c.children.invariant.2 (omega (arith, ints, c.requires.zone, c.ranges.from, c.ranges.to))
    c.if-to-passed.true (omega (arith, ints)) (omega (arith, ints, reach, short, near.0, near.1))
    ∙ ap₂ (λ a b. length (touched (items_of c.args.children.now) a b))
    (omega (arith, ints, c.ranges.from)) (omega (arith, ints, c.ranges.to))

pub is_met-met-requires-clause-high : goal.is_met-met-requires-clause-high
is_met-met-requires-clause-high c =
    let near = passed-near c.args.children.now c.children.passed.count c.children.passed.ticks
    c.requires.few c.requires.short c.children.invariant.0 in
    omega (arith, ints, near.0, near.1)

pub is_met-met-requires-clause-short : goal.is_met-met-requires-clause-short
is_met-met-requires-clause-short c =
    c.requires.short c.children.passed.count c.child-item.result.now c.child-item.ensures

pub ticks_of-requires : goal.ticks_of-requires
ticks_of-requires c =
    c.requires.short c.children.passed.count c.child-item.result.now c.child-item.ensures

pub overflow_add-next-in-children : goal.overflow_add-next-in-children
overflow_add-next-in-children c =
    let near = passed-near c.args.children.now c.children.passed.count c.children.passed.ticks
    c.requires.few c.requires.short c.children.invariant.0 in
    omega (arith, ints, near.0, near.1, c.ticks_of.ensures.low, c.ticks_of.ensures.high)

pub further-passed-requires-clause-passed : goal.further-passed-requires-clause-passed
further-passed-requires-clause-passed c =
    let near = passed-near c.args.children.now c.children.passed.count c.children.passed.ticks
    c.requires.few c.requires.short c.children.invariant.0 in
    let t = c.ticks_of.ensures in
    passed-next (items_of c.args.children.now) c.children.passed.count _ c.children.passed.ticks _
    c.child-item.result.now c.children.invariant.0 c.child-item.ensures refl
    (omega (arith, ints, near.0, near.1, t.value, t.low, t.high))

pub children-preserved : goal.children-preserved
children-preserved c =
    let near = passed-near c.args.children.now c.children.passed.count c.children.passed.ticks
    c.requires.few c.requires.short c.children.invariant.0 in
    let t = c.ticks_of.ensures in
    let short = c.requires.short c.children.passed.count _ c.child-item.ensures in
    let order = c.children.invariant.1 in
    let all = c.further-passed.ensures in
    let reach = reach-further _ (items_of c.args.children.now) _ _ _ _ c.args.ahead.count
    c.met_up_to-count.result (c.children.passed.count + 1) _ c.requires.short (omega (arith, order))
    all
    (reach-child _ _ _ _ _ c.children.passed.ticks _ (c.children.passed.count - c.args.ahead.count)
    c.children.count c.children.passed.count ((c.children.passed.count + 1) - c.args.ahead.count)
    c.met_up_to-count.result c.child-item.result.now c.is_met-met.result c.children.invariant.2
    (next (items_of c.args.children.now) c.children.passed.count _ c.child-item.ensures)
    (met-as c.child-item.result.now _ _ _ c.children.passed.ticks _ c.is_met-met.ensures
    (omega (arith, ints, near.0, near.1)))
    (omega (arith, order)) (omega (arith, ints, near.0, near.1, t.value, t.low, t.high))
    short.short c.met_up_to-count.ensures)
    in (all.passed, reach.0, reach.1)

pub returns : goal.returns
returns c =
    let near = passed-near c.args.children.now c.children.passed.count c.children.passed.ticks
    c.requires.few c.requires.short c.children.invariant.0 in
    let same : to_z w128 (of_z w128 c.children.passed.ticks) ≡ c.children.passed.ticks =
    omega (arith, ints, near.0, near.1) in
    reach_end _ (items_of c.args.children.now) _ _ c.children.passed.ticks
    (c.children.passed.count - c.args.ahead.count) c.children.count c.children.passed.count
    c.children.invariant.2 (omega (arith, c.len.ensures, c.children-test.false))
    (sym (ap (λ z. int_lt z (to_z w128 (of_z w128 c.args.from))) same) ∙ c.if-passed-from.false)
    ∙ ap₂ (λ a b. length (touched (items_of c.args.children.now) a b))
    (omega (arith, ints, c.ranges.from)) (omega (arith, ints, c.ranges.to))

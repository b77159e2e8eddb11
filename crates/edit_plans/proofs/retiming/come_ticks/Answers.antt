use Rattle.std.proofs.Common.{arith, sym, ap, ◌∙◌, length}
use Rattle.otio_model.proofs.LengthLimits.{few_enough}
use Rattle.otio_model.specs.Trees.{items_of}
use Rattle.otio_model.specs.Retimed.{with_source}
use Rattle.otio_model.specs.Sums.{capped}
use Rattle.coord.proofs.Members.{child_few}
use Rattle.edit_plans.specs.Amounts.{ticks_in}
use Rattle.edit_plans.specs.Retimings.{ranged_from}
use Rattle.edit_plans.proofs.Retimings.{kept_there, ranged_get, ranged_length, ticks_done, ticks_next}
use Rattle.edit_plans.proofs.retiming.come_ticks.Goals as goal

pub overflow_add-at : goal.overflow_add-at
overflow_add-at c = let k = few_enough c.args.children.now c.requires.few in
    omega (arith, k, c.requires.there, c.children-test.true)

pub retimed_ticks-ticks-requires-clause-few : goal.retimed_ticks-ticks-requires-clause-few
retimed_ticks-ticks-requires-clause-few c = child_few c.args.children.now _ c.child.result.now
    c.child.ensures c.requires.few

pub retimed_ticks-ticks-requires-clause-kept : goal.retimed_ticks-ticks-requires-clause-kept
retimed_ticks-ticks-requires-clause-kept c = kept_there c.args.at c.args.ranges.now
    (items_of c.args.children.now) c.children.index c.range_at.result c.child.result.now
    c.requires.kept c.range_at.ensures c.child.ensures

pub children-preserved : goal.children-preserved
children-preserved c = c.saturating_add-all.ensures ∙ ticks_next
    (ranged_from c.args.at c.args.ranges.now (items_of c.args.children.now))
    c.children.index (with_source c.range_at.result c.child.result.now) c.children.all
    c.retimed_ticks-ticks.result
    (ranged_get c.args.at c.args.ranges.now (items_of c.args.children.now) c.children.index
    c.range_at.result c.child.result.now c.range_at.ensures c.child.ensures)
    c.children.invariant c.retimed_ticks-ticks.ensures

pub returns : goal.returns
returns c = ticks_done
    (ranged_from c.args.at c.args.ranges.now (items_of c.args.children.now)) c.children.index
    (length c.args.ranges.now) c.children.all
    (ranged_length c.args.at c.args.ranges.now (items_of c.args.children.now) c.requires.there)
    c.children-test.false c.children.invariant

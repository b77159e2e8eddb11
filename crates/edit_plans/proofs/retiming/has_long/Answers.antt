use Rattle.std.proofs.Common.{arith, sym, ap, ◌∙◌, length}
use Rattle.otio_model.proofs.LengthLimits.{few_enough}
use Rattle.otio_model.specs.Trees.{items_of}
use Rattle.otio_model.specs.Retimed.{with_source}
use Rattle.edit_plans.specs.Retimings.{ranged_from}
use Rattle.edit_plans.proofs.Retimings.{kept_there, ranged_get, ranged_length}
use Rattle.edit_plans.proofs.WayLemmas.{long_here, long_next, long_none}
use Rattle.edit_plans.proofs.retiming.has_long.Goals as goal

pub overflow_add-at : goal.overflow_add-at
overflow_add-at c = let k = few_enough c.args.children.now c.requires.few in
    omega (arith, k, c.requires.there, c.children-test.true)

pub is_retimed_long-requires-clause-sound : goal.is_retimed_long-requires-clause-sound
is_retimed_long-requires-clause-sound c =
    (c.requires.faultless _ c.child.result.now c.child.ensures).sound

pub is_retimed_long-requires-clause-kept : goal.is_retimed_long-requires-clause-kept
is_retimed_long-requires-clause-kept c = kept_there c.args.at c.args.ranges.now
    (items_of c.args.children.now) c.children.index c.range_at.result c.child.result.now
    c.requires.kept c.range_at.ensures c.child.ensures

pub children-preserved : goal.children-preserved
children-preserved c = long_next
    (ranged_from c.args.at c.args.ranges.now (items_of c.args.children.now))
    c.children.index (with_source c.range_at.result c.child.result.now) c.is_retimed_long.result
    c.children.invariant
    (ranged_get c.args.at c.args.ranges.now (items_of c.args.children.now) c.children.index
    c.range_at.result c.child.result.now c.range_at.ensures c.child.ensures)
    c.is_retimed_long.ensures c.if-is_retimed_long.false

pub returns-then-is_retimed_long : goal.returns-then-is_retimed_long
returns-then-is_retimed_long c = long_here
    (ranged_from c.args.at c.args.ranges.now (items_of c.args.children.now))
    c.children.index (with_source c.range_at.result c.child.result.now) c.is_retimed_long.result
    c.children.invariant
    (ranged_get c.args.at c.args.ranges.now (items_of c.args.children.now) c.children.index
    c.range_at.result c.child.result.now c.range_at.ensures c.child.ensures)
    c.is_retimed_long.ensures c.if-is_retimed_long.true

pub returns : goal.returns
returns c =
    let n = ranged_length c.args.at c.args.ranges.now (items_of c.args.children.now)
    c.requires.there in
    long_none (ranged_from c.args.at c.args.ranges.now (items_of c.args.children.now))
    c.children.index (omega (arith, n, c.children-test.false)) c.children.invariant

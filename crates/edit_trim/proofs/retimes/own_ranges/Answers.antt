use Rattle.std.proofs.Common.{arith}
use Rattle.otio_model.specs.Trees.{items_of}
use Rattle.otio_model.proofs.LengthLimits.{few_enough}
use Rattle.edit_trim.proofs.Ranges.{own_all, own_more}
use Rattle.edit_trim.proofs.retimes.own_ranges.Goals as goal

pub overflow_add-index-end : goal.overflow_add-index-end
overflow_add-index-end c =
    omega (arith, few_enough c.args.children.now c.requires.few, c.requires.there)

pub children-preserved : goal.children-preserved
children-preserved c = own_more (items_of c.args.children.now) c.args.stretch.at _ c.children.index
    _ c.child.result.now c.source_range.result c.children.ranges.items _ c.child.ensures
    (omega (arith, c.children.auto.index)) (omega (arith, c.children.auto.index))
    c.source_range.ensures c.children.invariant c.in_ok-push.ensures.items

pub returns : goal.returns
returns c = own_all (items_of c.args.children.now) c.args.stretch c.children.index
    c.children.ranges.items (omega (
      arith,
      c.children-test.false,
      c.children.auto.index-end,
      c.children.auto.index,
    )) c.children.invariant

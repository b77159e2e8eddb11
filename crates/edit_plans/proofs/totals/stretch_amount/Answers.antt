use Rattle.std.proofs.Common.{arith}
use Rattle.otio_model.proofs.LengthLimits.{few_enough}
use Rattle.coord.proofs.Members.{child_few}
use Rattle.edit_plans.proofs.totals.stretch_amount.Goals as goal

pub overflow_add-index-end : goal.overflow_add-index-end
overflow_add-index-end c = let k = few_enough c.args.children.now c.requires.few in
    omega (arith, k, c.requires.there)

pub with_item-all-requires : goal.with_item-all-requires
with_item-all-requires c = record {
  few = child_few c.args.children.now c.children.index
      c.child.result.now c.child.ensures c.requires.few;
}

use Rattle.std.proofs.Common.{arith}
use Rattle.otio_model.specs.Trees.{items_of}
use Rattle.show_prog.proofs.Walk.{next_past, next_here}
use Rattle.show_prog.proofs.item_at.next_item.Goals as goal

pub returns-in_default : goal.returns-in_default
returns-in_default c = record {
  side = λ v u. next_here v u (items_of c.args.children.now) c.children.index c.child.result.now _ c.child.ensures c.in_default.not-Transition (c.children.invariant v u);
  within = omega arith;
}

pub children-preserved : goal.children-preserved
children-preserved c = λ v u. next_past v u (items_of c.args.children.now) c.children.index c.child.result.now c.in-Transition.field-0 _ c.child.ensures c.in-Transition.is (c.children.invariant v u)

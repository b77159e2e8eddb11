use Rattle.std.proofs.Common.{arith}
use Rattle.otio_model.specs.Falls.{child_counts}
use Rattle.coord.proofs.Members.{child_few}
use Rattle.show_prog.proofs.CountLemmas.{none_counted, one_counted, one_few, all_counted}
use Rattle.show_prog.proofs.counting.+count.Goals as goal

pub count_children-children-init : goal.count_children-children-init
count_children-children-init t c = none_counted c.args.children.now

pub count_children-count_item-requires : goal.count_children-count_item-requires
count_children-count_item-requires t c =
    let l = c.args.children.now in
    let fewer = child_counts l c.children.index c.child.result.now c.child.ensures in
    (omega (arith, fewer, c.decreases), child_few l c.children.index c.child.result.now c.child.ensures c.requires.few)

pub count_children-add-all-requires : goal.count_children-add-all-requires
count_children-add-all-requires t c =
    let few = one_few c.args.children.now c.children.index c.child.result.now c.children.all c.count_item.result c.child.ensures
    c.count_item.ensures.total c.children.invariant in
    omega (arith, few, c.requires.few)

pub count_children-children-preserved : goal.count_children-children-preserved
count_children-children-preserved t c =
    one_counted c.args.children.now c.children.index c.child.result.now c.children.all c.count_item.result _ c.child.ensures
    c.count_item.ensures.value c.count_item.ensures.total c.add-all.ensures c.children.invariant

pub count_children-returns-clause-value : goal.count_children-returns-clause-value
count_children-returns-clause-value t c = all_counted c.args.children.now c.children.index c.children.all (omega arith) c.children.invariant

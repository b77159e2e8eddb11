use Rattle.std.proofs.Common.{◌≡◌, Some, sym, ◌∙◌, arith, rules}
use Rattle.otio_model.specs.Trees.{children_of, below, items_of}
use Rattle.otio_model.specs.Falls.{child_counts}
use Rattle.schema_write.proofs.OldLemmas.{old_all, old_with, old_alone}
use Rattle.schema_write.proofs.old_forms.+walk.Goals as goal

pub walk_children-walk_item-requires : goal.walk_children-walk_item-requires
walk_children-walk_item-requires t c =
    let k = child_counts c.args.children.now c.children.index c.child.result.now c.child.ensures in
    (omega (arith, k, c.decreases), tt)

pub walk_children-returns-clause-ok : goal.walk_children-returns-clause-ok
walk_children-returns-clause-ok t c =
    old_all below (items_of c.args.children.now) c.children.index (omega arith) c.children.invariant

pub walk_item-returns-in-Ok-clause-ok : goal.walk_item-returns-in-Ok-clause-ok
walk_item-returns-in-Ok-clause-ok t c =
    let e : children_of c.args.item.now ≡ Some c.in-Some-children.children.now =
    first_of (cc (c.in-Some-children.ensures), search rules) in
    old_with c.args.item.now c.in-Some-children.children.now e
    (sym c.item_fault.ensures ∙ c.in-None.is) c.in-Ok.ensures.ok

pub walk_item-returns-in-None-children-clause-ok :
    goal.walk_item-returns-in-None-children-clause-ok
walk_item-returns-in-None-children-clause-ok t c =
    let e = rw c.in-None-children.is at c.children.ensures in
    old_alone c.args.item.now (sym e) (sym c.item_fault.ensures ∙ c.in-None.is)

-- The children so far have a form.
use Rattle.std.proofs.Common.{◌*◌, ◌+◌}
use Rattle.otio_model.specs.Counts.{count, count_of}
use Rattle.otio_model.specs.Trees.{below, items_of}
use Rattle.schema_write.specs.OldWalk.{AreOldTo}
use Rattle.schema_write.proofs.old_forms.+walk.Given as goal

abbrev pub decreases-walk_item : goal.decreases-walk_item
decreases-walk_item a = 2 * count_of a.item.now

abbrev pub decreases-walk_children : goal.decreases-walk_children
decreases-walk_children a = 2 * count a.children.now + 1

abbrev pub invariant-walk_children-children : goal.invariant-walk_children-children
invariant-walk_children-children l = AreOldTo below l.index (items_of l.children)

-- The children so far are counted.
use Rattle.std.proofs.Common.{◌*◌, ◌+◌}
use Rattle.otio_model.specs.Counts.{count, count_of}
use Rattle.show_prog.proofs.CountLemmas.{IsCounted}
use Rattle.show_prog.proofs.counting.+count.Given as goal

abbrev pub decreases-count_item : goal.decreases-count_item
decreases-count_item a = 2 * count_of a.item.now

abbrev pub decreases-count_children : goal.decreases-count_children
decreases-count_children a = 2 * count a.children.now + 1

abbrev pub invariant-count_children-children : goal.invariant-count_children-children
invariant-count_children-children l = IsCounted l.children l.index l.all

-- The children so far have no fault.
use Rattle.std.proofs.Common.{◌*◌, ◌+◌}
use Rattle.otio_model.specs.Counts.{count, count_of}
use Rattle.coord.specs.Walk.{AreFaultlessTo}
use Rattle.coord.proofs.judging.+judge.Given as goal

abbrev pub decreases-judge_item : goal.decreases-judge_item
decreases-judge_item a = 2 * count_of a.item.now

abbrev pub decreases-judge_children : goal.decreases-judge_children
decreases-judge_children a = 2 * count a.children.now + 1

abbrev pub invariant-judge_children-children : goal.invariant-judge_children-children
invariant-judge_children-children l = AreFaultlessTo l.index l.children

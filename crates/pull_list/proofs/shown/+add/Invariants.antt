-- What ends the cycle, and the children of a stack so far: they show nothing, and nothing was taken in of them.
use Rattle.std.proofs.Common.{◌+◌, ◌*◌, ◌≡◌, take, false}
use Rattle.otio_model.specs.Counts.{count, count_of}
use Rattle.otio_model.specs.Trees.{items_of}
use Rattle.coord.specs.Looks.{Blank, stack_shows}
use Rattle.coord.specs.Sights.{exact, looks}
use Rattle.pull_list.specs.Found.{Collects, clips_in}
use Rattle.pull_list.proofs.shown.+add.Given as goal

abbrev pub decreases-add_item : goal.decreases-add_item
decreases-add_item a = 8 * count_of a.item.now + 1

abbrev pub decreases-add_inside : goal.decreases-add_inside
decreases-add_inside a = 8 * count_of a.item.now

abbrev pub decreases-add_track : goal.decreases-add_track
decreases-add_track a = 8 * count a.children.now + 4

abbrev pub decreases-add_mix : goal.decreases-add_mix
decreases-add_mix a = 8 * count a.children.now + 3

abbrev pub decreases-add_side : goal.decreases-add_side
decreases-add_side a = 8 * count a.children.now + 2

abbrev pub decreases-add_stack : goal.decreases-add_stack
decreases-add_stack a = 8 * count a.children.now + 2

abbrev pub invariant-add_stack-children : goal.invariant-add_stack-children
invariant-add_stack-children l = record {
  groups : l.used.groups ≡ l.initial.used.groups;
  none : Collects l.initial.used.groups (clips_in l.children) l.initial.used.runs.items l.used.runs.items false Blank;
  same : stack_shows (looks (exact l.kind) (items_of l.children)) l.fn.at ≡ stack_shows (looks (exact l.kind) (take l.index (items_of l.children))) l.fn.at;
}

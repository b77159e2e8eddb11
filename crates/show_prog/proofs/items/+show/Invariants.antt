-- What ends the cycle, and the children of a stack so far.
use Rattle.std.proofs.Common.{◌+◌, ◌*◌, ◌≡◌, ◌≤◌, length, take}
use Rattle.otio_model.specs.Counts.{count, count_of}
use Rattle.otio_model.specs.Trees.{items_of}
use Rattle.coord.specs.Looks.{stack_shows}
use Rattle.coord.specs.Sights.{looks}
use Rattle.coord.specs.Sights.{exact}
use Rattle.show_prog.proofs.items.+show.Given as goal

abbrev pub decreases-show_item : goal.decreases-show_item
decreases-show_item a = 4 * count_of a.item.now + 1

abbrev pub decreases-show_inside : goal.decreases-show_inside
decreases-show_inside a = 4 * count_of a.item.now

abbrev pub decreases-show_track : goal.decreases-show_track
decreases-show_track a = 4 * count a.children.now + 3

abbrev pub decreases-show_side : goal.decreases-show_side
decreases-show_side a = 4 * count a.children.now + 2

abbrev pub decreases-show_stack : goal.decreases-show_stack
decreases-show_stack a = 4 * count a.children.now + 2

abbrev pub invariant-show_stack-children : goal.invariant-show_stack-children
invariant-show_stack-children l = record {
  within : l.end ≤ length (items_of l.children);
  same : stack_shows (looks (exact l.kind) (items_of l.children)) l.fn.at
      ≡ stack_shows (looks (exact l.kind) (take l.end (items_of l.children))) l.fn.at;
}

abbrev pub decreases-show_stack-children : goal.decreases-show_stack-children
decreases-show_stack-children l = l.end

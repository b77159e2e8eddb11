-- What ends the cycle, and the clips of the children so far: they are stocked.
use Rattle.std.proofs.Common.{◌+◌, ◌*◌, ◌++◌, List, take}
use Rattle.otio_model.specs.Counts.{count, count_of}
use Rattle.otio_model.specs.Trees.{items_of}
use Rattle.otio_model.specs.declared.compositions.Clip.{Clip as ClipRow}
use Rattle.pull_list.specs.Found.{IsStock}
use Rattle.pull_list.proofs.Stocking.{clips_among}
use Rattle.pull_list.proofs.clips.+add.Given as goal

abbrev pub decreases-add_item : goal.decreases-add_item
decreases-add_item a = 2 * count_of a.item.now

abbrev pub decreases-add_children : goal.decreases-add_children
decreases-add_children a = 2 * count a.children.now + 1

abbrev pub invariant-add_children-children : goal.invariant-add_children-children
invariant-add_children-children l = (clips : List ClipRow)
    → IsStock clips l.initial.stock.groups l.initial.stock.available.items
    → IsStock (clips ++ clips_among (take l.index (items_of l.children))) l.stock.groups l.stock.available.items

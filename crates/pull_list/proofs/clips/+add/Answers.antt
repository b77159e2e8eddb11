use Rattle.std.proofs.Common.{sym, ap, arith, ◌++◌, take}
use Rattle.otio_model.specs.Falls.{child_counts}
use Rattle.otio_model.specs.Trees.{items_of}
use Rattle.pull_list.specs.Found.{clips_of_item}
use Rattle.pull_list.proofs.Stocking.{clips_among, on_ok_item, stock_all, stock_next}
use Rattle.pull_list.proofs.clips.+add.Goals as goal

pub add_children-add_item-requires : goal.add_children-add_item-requires
add_children-add_item-requires t c =
    let fewer = child_counts c.args.children.now c.children.index c.child.result.now c.child.ensures in
    let d = c.decreases in omega (arith, d, fewer)

pub add_children-children-preserved : goal.add_children-children-preserved
add_children-children-preserved t c = λ clips stock.
    let xs = items_of c.args.children.now in
    stock_next clips xs c.children.index c.child.result.now c.add_item.new.stock.groups
    c.add_item.new.stock.available.items c.child.ensures
    (c.in_ok-add_item.ensures (clips ++ clips_among (take c.children.index xs))
    (c.children.invariant clips stock))

pub add_children-returns : goal.add_children-returns
add_children-returns t c = λ clips stock.
    let n = c.len-index-end.ensures in let f = c.children-test.false in
    stock_all clips c.args.children.now c.children.index c.children.stock.groups
    c.children.stock.available.items (omega (arith, n, f)) (c.children.invariant clips stock)

pub add_item-returns-in-Clip : goal.add_item-returns-in-Clip
add_item-returns-in-Clip t c =
    on_ok_item c.add_clip.result _ _ _ _ _ _ (ap clips_of_item (sym c.in-Clip.is)) c.add_clip.ensures

pub add_item-returns-in-Stack : goal.add_item-returns-in-Stack
add_item-returns-in-Stack t c =
    on_ok_item c.add_children.result _ _ _ _ _ _ (ap clips_of_item (sym c.in-Stack.is)) c.add_children.ensures

pub add_item-returns-in-Track : goal.add_item-returns-in-Track
add_item-returns-in-Track t c =
    on_ok_item c.add_children-in-Track.result _ _ _ _ _ _ (ap clips_of_item (sym c.in-Track.is))
    c.add_children-in-Track.ensures

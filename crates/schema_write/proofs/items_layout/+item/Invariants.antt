use Rattle.std.proofs.Common.{◌≡◌, ◌+◌, ◌*◌, ◌∷◌, [], ℕ, drop, map}
use Rattle.dev_io.specs.Buffer.{standing}
use Rattle.dev_io.proofs.Leaving.{Leaves}
use Rattle.json_text.specs.Levels.{deep}
use Rattle.json_text.specs.Layout.{item_lines}
use Rattle.otio_model.specs.Counts.{count, count_of}
use Rattle.otio_model.specs.Trees.{items_of}
use Rattle.schema_write.specs.Objects.{item_in, children_in}
use Rattle.schema_write.specs.Styles.{style_of}
use Rattle.schema_write.proofs.items_layout.+item.Given as goal

-- the next line has this byte before its line feed
abbrev pub invariant-put_child_lines-items : goal.invariant-put_child_lines-items
invariant-put_child_lines-items g l =
    let stand = standing g.W.Out.known g.W.Out.faults in
    (head : ℕ) × (l.lead ≡ head ∷ 10 ∷ [])
    × Leaves (stand l.fn.out l.fn.buffer) (stand l.out l.buffer)
    (item_lines 91 (deep l.level) (children_in (style_of l.family) l.list))
    (item_lines head (deep l.level) (map (item_in (style_of l.family)) (drop l.index (items_of l.list))))

abbrev pub decreases-put_item : goal.decreases-put_item
decreases-put_item g a = 4 * count_of a.item.now

abbrev pub decreases-put_stack : goal.decreases-put_stack
decreases-put_stack g a = 4 * count a.stack.now.children + 3

abbrev pub decreases-put_track : goal.decreases-put_track
decreases-put_track g a = 4 * count a.track.now.children + 3

abbrev pub decreases-put_children : goal.decreases-put_children
decreases-put_children g a = 4 * count a.children.now + 2

abbrev pub decreases-put_child_lines : goal.decreases-put_child_lines
decreases-put_child_lines g a = 4 * count a.list.now + 1

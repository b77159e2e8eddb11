-- The items from the end on are transitions.
use Rattle.std.proofs.Common.{◌≡◌}
use Rattle.otio_model.specs.Trees.{items_of}
use Rattle.show_prog.specs.Walk.{item_before}
use Rattle.show_prog.proofs.item_at.item_before.Given as goal

abbrev pub invariant-children : goal.invariant-children
invariant-children l =
    item_before (items_of l.children) l.fn.end ≡ item_before (items_of l.children) l.index

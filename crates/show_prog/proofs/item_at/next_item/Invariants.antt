-- The items so far are transitions.
use Rattle.std.proofs.Common.{◌≡◌, ℤ, drop}
use Rattle.otio_model.specs.Trees.{items_of}
use Rattle.coord.specs.Looks.{next_shows}
use Rattle.coord.specs.Sights.{View, looks}
use Rattle.show_prog.proofs.item_at.next_item.Given as goal

abbrev pub invariant-children : goal.invariant-children
invariant-children l = (v : View) (u : ℤ) → next_shows (looks v (drop l.start (items_of l.children))) u ≡ next_shows (looks v (drop l.index (items_of l.children))) u

-- The items that a patch puts in, however they are held.
use Rattle.std.specs.Prelude.{◌≡◌, List, length}
use Rattle.std.proofs.Common.{ap}
use Rattle.otio_model.specs.declared.compositions.ItemOf.{ItemOf}
use Rattle.otio_model.specs.declared.compositions.Listed.{Listed}
use Rattle.otio_model.specs.declared.compositions.Listed.TheOpen.{Listed-F}
use Rattle.otio_model.specs.declared.compositions.Listed.TheViews.{out-roll-Listed}
use Rattle.otio_model.specs.declared.put_items.Held.{Held}
use Rattle.otio_model.specs.declared.put_items.Held.TheVariants.{Loose, Cut}
use Rattle.otio_model.specs.Pieces.{ArePieces, all_items}
use Rattle.otio_model.specs.Trees.{items_of, listed}

-- the items, in order
abbrev pub items_held : Held → List (ItemOf Listed)
items_held (Loose list) = list.items
items_held (Cut pieces len) = all_items pieces.items

-- pieces are those of children, and counted
abbrev pub IsHeld : Held → Type 0
IsHeld (Loose list) = Unit {0}
IsHeld (Cut pieces len) = ArePieces pieces.items × (len ≡ length (all_items pieces.items))

-- the children of a list are that list
pub list_kept : (xs : List (ItemOf Listed)) → items_of (listed xs) ≡ xs
list_kept xs = ap (λ (l : Listed-F Listed). l.list) (out-roll-Listed (record { list = xs }))

-- Transitions side by side, item by item.
use Rattle.std.proofs.Common.{◌≡◌, Bool, false, ◌||◌, ◌&&◌, List, [], ◌∷◌, refl}
use Rattle.otio_model.specs.declared.compositions.Listed.{Listed}
use Rattle.otio_model.specs.declared.compositions.ItemOf.{ItemOf}
use Rattle.otio_model.specs.Trees.{is_transition}
use Rattle.otio_model.specs.Misplaced.{side_by_side}

-- the same, where it is known whether a transition stands before the first
abbrev pub beside : Bool → List (ItemOf Listed) → Bool
beside before [] = false
beside before (item ∷ items) = (before && is_transition item) || beside (is_transition item) items

pub beside-cons : (item : ItemOf Listed) (items : List (ItemOf Listed)) → beside (is_transition item) items ≡ side_by_side (item ∷ items)
beside-cons item [] = refl
beside-cons item (next ∷ items) = rw (beside-cons next items) refl

pub beside-first : (items : List (ItemOf Listed)) → beside false items ≡ side_by_side items
beside-first [] = refl
beside-first (item ∷ items) = beside-cons item items

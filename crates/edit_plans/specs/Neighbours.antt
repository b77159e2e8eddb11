-- The nearest items next to a child of a list.
use Rattle.std.specs.Prelude.{◌≡◌, ℕ, ◌+◌, ◌<◌, true, false, List, Option, Some, slice_get, take}
use Rattle.std.specs.Prelude.{drop}
use Rattle.otio_model.specs.declared.compositions.ItemOf.{ItemOf}
use Rattle.otio_model.specs.declared.compositions.Listed.{Listed}
use Rattle.otio_model.specs.Trees.{is_transition}
use Rattle.edits.specs.Edges.{Held, first_item, last_item}

-- the nearest before an index that isn't a transition stands at i
pub record IsBefore (l : List (ItemOf Listed)) (index i : ℕ) : Type 0 where
  pub before : i < index
  pub item : ItemOf Listed
  pub there : slice_get l i ≡ Some item
  pub last : last_item (take index l) ≡ Some item
  pub between : (j : ℕ) (x : ItemOf Listed) → i < j → j < index → slice_get l j ≡ Some x
      → is_transition x ≡ true

-- the nearest after an index that isn't a transition stands at i
pub record IsAfter (l : List (ItemOf Listed)) (index i : ℕ) : Type 0 where
  pub behind : index < i
  pub item : ItemOf Listed
  pub there : slice_get l i ≡ Some item
  pub first : first_item (drop (index + 1) l) ≡ Some item
  pub between : (j : ℕ) (x : ItemOf Listed) → index < j → j < i → slice_get l j ≡ Some x
      → is_transition x ≡ true

-- an item that isn't a transition
abbrev pub IsNotTransition : ItemOf Listed → Type 0
IsNotTransition x = is_transition x ≡ false

-- an item is held, and these stand next to it, transitions aside; none where it has none
pub record IsBetween (before : Option (ItemOf Listed)) (item : ItemOf Listed)
    (behind : Option (ItemOf Listed)) (h : Held) : Type 0 where
  pub last : last_item h.before ≡ before
  pub held : h.item ≡ item
  pub first : first_item h.behind ≡ behind

-- Where a flat track goes.
use Rattle.std.specs.Prelude.{◌≡◌, ℕ, true, false, List, Some, slice_get, take}
use Rattle.otio_model.specs.declared.compositions.ItemOf.{ItemOf}
use Rattle.otio_model.specs.declared.compositions.Listed.{Listed}
use Rattle.flat.specs.Roots.{is_of}
use Rattle.flat.specs.Flattened.{has_kind}

-- the child of that index is the first track of the kind
pub record IsFirstOf (kind : List ℕ) (l : List (ItemOf Listed)) (i : ℕ) : Type 0 where
  pub item : ItemOf Listed
  pub there : slice_get l i ≡ Some item
  pub of : is_of kind item ≡ true
  pub before : has_kind kind (take i l) ≡ false

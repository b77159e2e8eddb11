-- Children of a track that can be cut at two instants, as the code finds them.
use Rattle.std.specs.Prelude.{◌≡◌, ℕ, ◌<◌, ◌*◌, ◌^◌, ℤ, pos, ◌-ℤ◌, ◌≤ℤ◌, ◌<ℤ◌, ◌&&◌, length, Bool, true, false, List, Some, slice_get, take}
use Rattle.otio_model.specs.declared.compositions.ItemOf.{ItemOf}
use Rattle.otio_model.specs.declared.compositions.Listed.{Listed}
use Rattle.otio_model.specs.Counts.{count_of}
use Rattle.coord.specs.Soundness.{IsFaultlessItem}
use Rattle.edits.specs.Edges.{added}
use Rattle.flat.specs.Pieces.{cuts_at}
use Rattle.flat.specs.Roots.{is_plain, items_in}

-- the child y of index i can be cut at a and at b, or needn't be
abbrev pub is_cut : List (ItemOf Listed) → ℤ → ℤ → ℕ → ItemOf Listed → Bool
is_cut l a b i y = cuts_at y (a -ℤ added (take i l)) && cuts_at y (b -ℤ added (take i l))

abbrev pub AreCutTo : List (ItemOf Listed) → ℤ → ℤ → ℕ → Type 0
AreCutTo l a b n = (i : ℕ) (y : ItemOf Listed) → i < n → slice_get l i ≡ Some y
    → is_cut l a b i y ≡ true

-- the first that can't
pub record IsUncut (l : List (ItemOf Listed)) (a b : ℤ) (i : ℕ) : Type 0 where
  pub item : ItemOf Listed
  pub there : slice_get l i ≡ Some item
  pub uncut : is_cut l a b i item ≡ false
  pub before : AreCutTo l a b i

-- so far all can, and the next starts at an instant
pub record IsPassed (l : List (ItemOf Listed)) (a b : ℤ) (i : ℕ) (at : ℤ) : Type 0 where
  pub cut : AreCutTo l a b i
  pub start : at ≡ added (take i l)
  pub low : pos 0 ≤ℤ at
  pub high : at ≤ℤ pos (i * 705600000000000000000000)

-- the item is a plain track without a fault, whose children can be cut at both ends of a window
pub record IsInWindow (x : ItemOf Listed) (from to : ℤ) : Type 0 where
  pub plain : is_plain x ≡ true
  pub few : count_of x < 2 ^ 32
  pub faultless : IsFaultlessItem x
  pub cut : AreCutTo (items_in x) from to (length (items_in x))
  pub low : pos 0 ≤ℤ from
  pub wide : from <ℤ to
  pub high : to ≤ℤ pos 1411200000000000000000000

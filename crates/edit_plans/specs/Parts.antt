-- The child that holds an instant, by its index, and children that are clear of a zone.
use Rattle.std.specs.Prelude.{◌≡◌, ℕ, ◌+◌, ◌-◌, ◌≤◌, ◌<◌, ℤ, pos, ◌+ℤ◌, ◌-ℤ◌, ◌<ℤ◌, false, true}
use Rattle.std.specs.Prelude.{List, [], ◌∷◌, IsSomeAnd, Some, take, drop, length, slice_get}
use Rattle.otio_model.specs.declared.compositions.ItemOf.{ItemOf}
use Rattle.otio_model.specs.declared.compositions.Listed.{Listed}
use Rattle.otio_model.specs.Kept.{reach_in}
use Rattle.edits.specs.Children.{ticks}
use Rattle.edits.specs.Edges.{added, Held, held_at, start}
use Rattle.edits.specs.Narrow.{is_met}

-- the child at this index holds the instant, and starts there
pub record IsHeldAt (l : List (ItemOf Listed)) (w : ℤ) (i : ℕ) (at : ℤ) : Type 0 where
  pub held : Held
  pub there : held_at l w ≡ Some held
  pub item : slice_get l i ≡ Some held.item
  pub before : held.before ≡ take i l
  pub behind : held.behind ≡ drop (i + 1) l
  pub start : at ≡ start held

-- so many first children are so long, and end before an instant by more than an overlap reaches
pub record IsClear (l : List (ItemOf Listed)) (w : ℤ) (i : ℕ) (at : ℤ) : Type 0 where
  pub within : i ≤ length l
  pub long : at ≡ added (take i l)
  pub early : 0 < i → (at +ℤ pos (reach_in l)) <ℤ w

-- so many first children are so long
pub record IsPassed (l : List (ItemOf Listed)) (i : ℕ) (at : ℤ) : Type 0 where
  pub within : i ≤ length l
  pub long : at ≡ added (take i l)

-- the zone from a to b meets none of a list
abbrev pub NoneMet : List (ItemOf Listed) → ℤ → ℤ → Type 0
NoneMet [] a b = Unit {0}
NoneMet (x ∷ l) a b = (is_met x a b ≡ false) × NoneMet l (a -ℤ ticks x) (b -ℤ ticks x)

-- j first children are so long, where i first ones end at an instant; the zone from a to b meets
-- none of those between
pub record IsFurther (l : List (ItemOf Listed)) (a b : ℤ) (i : ℕ) (at : ℤ) (j : ℕ)
    (now : ℤ) : Type 0 where
  pub order : i ≤ j
  pub passed : IsPassed l j now
  pub long : now ≡ at +ℤ added (take (j - i) (drop i l))
  pub unmet : NoneMet (take (j - i) (drop i l)) (a -ℤ at) (b -ℤ at)

-- the zone from a to b meets the child at this index
abbrev pub IsMetAt : List (ItemOf Listed) → ℤ → ℤ → ℕ → Type 0
IsMetAt l a b i = IsSomeAnd (slice_get l i)
    (λ x. is_met x (a -ℤ added (take i l)) (b -ℤ added (take i l)) ≡ true)

-- j first children are so long: the i that stand ahead of the zone from a to b, or more, of which
-- the zone meets the last one
pub record IsStarted (l : List (ItemOf Listed)) (a b : ℤ) (i j : ℕ) (now : ℤ) : Type 0 where
  pub passed : IsPassed l j now
  pub order : i ≤ j
  pub met : i < j → IsMetAt l a b (j - 1)

-- Lengths of items as numbers, and which of them holds an instant.
use Rattle.std.specs.Prelude.{◌≡◌, ℕ, ◌+◌, ◌≤◌, ◌<◌, ℤ, pos, ◌-ℤ◌, true, false, List, [], ◌∷◌}
use Rattle.std.specs.Prelude.{IsSomeAnd, take, drop, length, slice_get, slice_index, ◌++◌, ◌/◌}
use Rattle.std.specs.Prelude.{slice_index_or as get_or}
use Rattle.otio_model.specs.declared.compositions.ItemOf.{ItemOf}
use Rattle.otio_model.specs.declared.compositions.Listed.{Listed}
use Rattle.otio_model.specs.declared.lists.Piece.{Piece}
use Rattle.otio_model.specs.Lengths.{length_of, or_zero}
use Rattle.otio_model.specs.Kept.{IsTransition, transitions_in}
use Rattle.otio_model.specs.Overlaps.{overlaps}
use Rattle.otio_model.specs.Pieces.{all_items, IsPiece}

-- the lengths of items; one without a length counts as one of length 0
abbrev pub lens : List (ItemOf Listed) → List ℕ
lens [] = []
lens (x ∷ xs) = or_zero (length_of x) ∷ lens xs

abbrev pub total : List ℕ → ℕ
total [] = 0
total (n ∷ ns) = n + total ns

-- the length at the index holds the instant, and starts there
pub record Holds (ns : List ℕ) (instant index start : ℕ) : Type 0 where
  pub within : index < length ns
  pub starts : start ≡ total (take index ns)
  pub not_before : start ≤ instant
  pub not_behind : instant < start + slice_index ns index

-- what is known of a piece among others
pub record IsRead (ps : List Piece) (i : ℕ) (p : Piece) : Type 0 where
  pub is : IsPiece p
  pub there : i < length ps
  pub read : p ≡ get_or ps i p
  pub before : p.start.items ≡ length (all_items (take i ps))
  pub start : p.start.ticks ≡ total (lens (all_items (take i ps)))
  pub next : total (lens (all_items (take (i + 1) ps)))
      ≡ total (lens (all_items (take i ps))) + total (lens p.items.items)
  pub within : total (lens (all_items (take i ps))) + total (lens p.items.items)
      ≤ total (lens (all_items ps))
  pub fits : length (all_items (take i ps)) + length p.items.items ≤ length (all_items ps)
  pub split : lens (all_items ps) ≡ lens (all_items (take i ps))
      ++ (lens p.items.items ++ lens (all_items (drop (i + 1) ps)))
  pub few : length ps ≤ length (all_items ps) / 32 + 1

-- the last piece that starts at or before the instant lies between these
pub record IsAround (ps : List Piece) (at low high : ℕ) : Type 0 where
  pub order : low < high
  pub within : high ≤ length ps
  pub not_before : total (lens (all_items (take low ps))) ≤ at
  pub not_behind : high < length ps → at < total (lens (all_items (take high ps)))

-- the item at the index is the first transition from another index on, and starts there
pub record IsNext (xs : List (ItemOf Listed)) (from index start : ℕ) : Type 0 where
  pub later : from ≤ index
  pub within : index < length xs
  pub there : IsSomeAnd (slice_get xs index) IsTransition
  pub between : transitions_in (take index xs) ≡ transitions_in (take from xs)
  pub starts : start ≡ total (take index (lens xs))

-- no item from an index on is a transition
pub record HasNone (xs : List (ItemOf Listed)) (from : ℕ) : Type 0 where
  pub same : transitions_in xs ≡ transitions_in (take from xs)

-- no overlap of the items holds the instant, which is counted from their start
abbrev pub NoneOver : List (ItemOf Listed) → ℤ → Type 0
NoneOver [] w = Unit {0}
NoneOver (x ∷ xs) w = (overlaps x w ≡ false) × NoneOver xs (w -ℤ pos (or_zero (length_of x)))

-- the item at the index starts there, and its overlap is the first that holds the instant
pub record IsOver (xs : List (ItemOf Listed)) (w : ℤ) (index start : ℕ) : Type 0 where
  pub within : index < length xs
  pub starts : start ≡ total (take index (lens xs))
  pub there : IsSomeAnd (slice_get xs index) (λ x. overlaps x (w -ℤ pos start) ≡ true)
  pub none : NoneOver (take index xs) w

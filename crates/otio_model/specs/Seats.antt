-- Which child holds an instant, and where it starts; which one is the next transition, and whose
-- overlap holds an instant.
use Rattle.std.specs.Prelude.{◌≡◌, ℕ, ℤ, pos, ◌+◌, ◌≤◌, ◌<◌, ◌≤ℤ◌, ◌<ℤ◌, ◌-ℤ◌, Bool, true, false}
use Rattle.std.specs.Prelude.{Some, None, IsSomeAnd, take, length, slice_get}
use Rattle.otio_model.specs.declared.compositions.Listed.{Listed}
use Rattle.otio_model.specs.declared.seeks.Seat.{Seat}
use Rattle.otio_model.specs.Trees.{items_of}
use Rattle.otio_model.specs.Lengths.{added, lengths, start_of}
use Rattle.otio_model.specs.Kept.{IsTransition, transitions_in}
use Rattle.otio_model.specs.Overlaps.{overlaps}

-- the child at the seat's index starts there, and holds the instant
pub record IsSeat (l : Listed) (ticks : ℤ) (s : Seat) : Type 0 where
  pub within : s.index < length (items_of l)
  pub starts : s.start ≡ pos (start_of l s.index)
  pub not_before : s.start ≤ℤ ticks
  pub not_behind : ticks <ℤ pos (start_of l (s.index + 1))

-- the instant lies before all children or behind them
abbrev pub IsOutside : Listed → ℤ → Type 0
IsOutside l ticks = pos 0 ≤ℤ ticks → pos (added (lengths l)) ≤ℤ ticks

-- the child at the seat's index starts there and is the first transition from an index on
pub record IsNextTransition (l : Listed) (from : ℕ) (s : Seat) : Type 0 where
  pub later : from ≤ s.index
  pub there : IsSomeAnd (slice_get (items_of l) s.index) IsTransition
  pub none_between :
      transitions_in (take s.index (items_of l)) ≡ transitions_in (take from (items_of l))
  pub starts : s.start ≡ pos (start_of l s.index)

-- no child from an index on is a transition
abbrev pub HasNoMore : Listed → ℕ → Type 0
HasNoMore l from = transitions_in (items_of l) ≡ transitions_in (take from (items_of l))

-- whether the child at an index is a transition whose overlap holds the instant
abbrev pub overlap_holds : Listed → ℤ → ℕ → Bool
overlap_holds l at i =
    elim (slice_get (items_of l) i)
    [ None ↦ false | Some x ↦ overlaps x (at -ℤ pos (start_of l i)) ]

-- the child at the seat's index starts there and is the first whose overlap holds the instant
pub record IsFirstOverlap (l : Listed) (at : ℤ) (s : Seat) : Type 0 where
  pub within : s.index < length (items_of l)
  pub starts : s.start ≡ pos (start_of l s.index)
  pub there : overlap_holds l at s.index ≡ true
  pub none_before : (i : ℕ) → i < s.index → overlap_holds l at i ≡ false

-- no overlap of a child holds the instant
abbrev pub HasNoOverlap : Listed → ℤ → Type 0
HasNoOverlap l at = (i : ℕ) → overlap_holds l at i ≡ false

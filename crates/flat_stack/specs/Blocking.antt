-- Transitions that stand too near to an end of their track, as the code finds them.
use Rattle.std.specs.Prelude.{◌≡◌, ℕ, zero, suc, ◌<◌, ◌*◌, ◌==◌, ℤ, pos, ◌≤ℤ◌, int_lt, ◌&&◌, ◌||◌, not, Bool, true, false, List, [], ◌∷◌, Option, Some, None, slice_get, take}
use Rattle.otio_model.specs.declared.compositions.ItemOf.{ItemOf}
use Rattle.otio_model.specs.declared.compositions.Listed.{Listed}
use Rattle.otio_model.specs.declared.timelines.Timeline.{Timeline}
use Rattle.coord.specs.Looks.{Overlap}
use Rattle.coord.specs.Sights.{overlap_of}
use Rattle.edits.specs.Edges.{added}
use Rattle.flat.specs.declared.faults.FlatFault.{FlatFault}
use Rattle.flat.specs.declared.faults.FlatFault.TheVariants as F
use Rattle.flat.specs.Blocked.{IsFree}
use Rattle.flat.specs.Joined.{JoinBlocks, begins_early, ends_late}
use Rattle.flat.specs.Roots.{roots}

-- an overlap of the child of that index, which starts at an instant, begins before the list
abbrev pub early_by : ℕ → ℤ → Option Overlap → Bool
early_by i at None = false
early_by i at (Some o) = (i == 0) || int_lt at o.before

-- an overlap ends behind the list, where so many children of so many ticks stand behind it
abbrev pub late_by : ℕ → ℤ → Option Overlap → Bool
late_by left rest None = false
late_by left rest (Some o) = (left == 0) || int_lt rest o.after

-- the overlap of the child of that index may not stand there
abbrev pub blocks_at : Bool → Bool → List (ItemOf Listed) → ℕ → Option Overlap → Bool
blocks_at is_first is_last l i None = false
blocks_at is_first is_last l i (Some o) =
    (not is_first && begins_early l i o) || (not is_last && ends_late l i o)

-- the children before the one of that index stand where they may
abbrev pub AreApartTo : Bool → Bool → List (ItemOf Listed) → ℕ → Type 0
AreApartTo is_first is_last l n = (i : ℕ) (y : ItemOf Listed) → i < n → slice_get l i ≡ Some y
    → blocks_at is_first is_last l i (overlap_of y) ≡ false

-- the first that doesn't
pub record IsCrossing (is_first is_last : Bool) (l : List (ItemOf Listed)) (i : ℕ) : Type 0 where
  pub item : ItemOf Listed
  pub there : slice_get l i ≡ Some item
  pub blocks : blocks_at is_first is_last l i (overlap_of item) ≡ true
  pub before : AreApartTo is_first is_last l i

-- so far all do, and the next starts at an instant
pub record IsPassed (is_first is_last : Bool) (l : List (ItemOf Listed)) (i : ℕ) (at : ℤ) : Type 0
  where
    pub apart : AreApartTo is_first is_last l i
    pub start : at ≡ added (take i l)
    pub low : pos 0 ≤ℤ at
    pub high : at ≤ℤ pos (i * 705600000000000000000000)

-- nothing is wrong with the first inputs
abbrev pub FreeTo : Bool → List Timeline → ℕ → Type 0
FreeTo is_first l zero = Unit {0}
FreeTo is_first [] (suc n) = Unit {0}
FreeTo is_first (t ∷ []) (suc n) = IsFree (JoinBlocks is_first true (roots t))
FreeTo is_first (t ∷ (m ∷ more)) (suc n) = IsFree (JoinBlocks is_first false (roots t))
    × FreeTo false (m ∷ more) n

-- whether an input is the first, where the list begins with the first or doesn't
abbrev pub first_at : Bool → ℕ → Bool
first_at is_first zero = is_first
first_at is_first (suc i) = false

-- whether it is the last
abbrev pub last_at : List Timeline → ℕ → Bool
last_at [] i = false
last_at (t ∷ []) zero = true
last_at (t ∷ []) (suc i) = false
last_at (t ∷ (m ∷ more)) zero = false
last_at (t ∷ (m ∷ more)) (suc i) = last_at (m ∷ more) i

-- a fault of that input tells it; want of memory tells 0
abbrev pub TellsInput : ℕ → FlatFault → ℕ → Type 0
TellsInput i (F.Nested place) j = j ≡ i
TellsInput i (F.Transition place) j = j ≡ i
TellsInput i (F.Phase place) j = j ≡ i
TellsInput i F.Range j = j ≡ i
TellsInput i F.Memory j = j ≡ 0

-- Items that can be measured, and items that can be cut.
use Rattle.std.specs.Prelude.{◌≡◌, ℕ, ◌<◌, ◌^◌, ℤ, pos, ◌≤ℤ◌, List, Some, None, slice_get}
use Rattle.limits.specs.Limits.{most_ticks}
use Rattle.tick_time.specs.Times.{IsInRange}
use Rattle.otio_model.specs.declared.compositions.ItemOf.{ItemOf}
use Rattle.otio_model.specs.declared.compositions.Listed.{Listed}
use Rattle.otio_model.specs.Counts.{count_of}
use Rattle.otio_model.specs.Lengths.{trimmed_start}
use Rattle.coord.specs.Soundness.{fault_of}
use Rattle.coord.specs.Speeds.{media_at, speed_of}
use Rattle.edits.specs.Children.{ticks}

-- each item of a list has fewer than 2^32 items
abbrev pub AreFew : List (ItemOf Listed) → Type 0
AreFew l = (i : ℕ) (x : ItemOf Listed) → slice_get l i ≡ Some x → count_of x < 2 ^ 32

-- an item of fewer than 2^32 items that is at most a million seconds long
pub record IsShort (x : ItemOf Listed) : Type 0 where
  pub few : count_of x < 2 ^ 32
  pub short : ticks x ≤ℤ pos most_ticks

-- each item of a list is short
abbrev pub AreShort : List (ItemOf Listed) → Type 0
AreShort l = (i : ℕ) (x : ItemOf Listed) → slice_get l i ≡ Some x → IsShort x

-- an item of fewer than 2^32 items that has no fault of its own
pub record IsCuttable (x : ItemOf Listed) : Type 0 where
  pub few : count_of x < 2 ^ 32
  pub sound : fault_of x ≡ None

abbrev pub AreCuttable : List (ItemOf Listed) → Type 0
AreCuttable l = (i : ℕ) (x : ItemOf Listed) → slice_get l i ≡ Some x → IsCuttable x

-- the right piece of an item that is cut at so many ticks starts here in the media, in range
pub record IsRightStart (x : ItemOf Listed) (t m : ℤ) : Type 0 where
  pub is : m ≡ media_at (trimmed_start x) (speed_of x) t
  pub near : IsInRange m

-- How long an item goes on to show what an item below it shows; no public clause cites these words.
use Rattle.std.specs.Prelude.{◌≡◌, ◌<◌, ◌≤◌, ◌+◌, ◌^◌, ℕ, ℤ, pos, ◌+ℤ◌, ◌-ℤ◌, ◌≤ℤ◌, ◌<ℤ◌, Bool, true, false, List, Some, Contains, slice_get}
use Rattle.limits.specs.Limits.{most_ticks}
use Rattle.otio_model.specs.Counts.{count, count_of}
use Rattle.otio_model.specs.Lengths.{added, lengths, trimmed_start}
use Rattle.otio_model.specs.Trees.{items_of}
use Rattle.otio_model.specs.declared.compositions.Clip.{Clip as ClipRow}
use Rattle.otio_model.specs.declared.compositions.ItemOf.{ItemOf}
use Rattle.otio_model.specs.declared.compositions.Listed.{Listed}
use Rattle.coord.specs.Looks.{Show, stack_shows, track_shows}
use Rattle.coord.specs.Programs.{kind_of}
use Rattle.coord.specs.Sights.{View, exact, looks, sight}
use Rattle.coord.specs.Soundness.{AreFaultless, IsFaultlessItem}
use Rattle.coord.specs.Speeds.{media_at, speed_of}
use Rattle.pull_list.specs.Found.{clips_in, clips_of_item}
use Rattle.pull_list.specs.declared.parts.Part.{Part}
use Rattle.pull_list.specs.declared.parts.Showing.{Showing}

-- one item is another, or one below it
pub record IsBelow (x y : ItemOf Listed) : Type 0 where
  pub few : count_of y < 2 ^ 32
  pub sound : IsFaultlessItem y
  pub clips : (c : ClipRow) → Contains (clips_of_item y) c → Contains (clips_of_item x) c

-- from an instant of the item on, for so many ticks, the other item shows the same from its own
-- instant on
pub record IsShowing (x : ItemOf Listed) (kind : List ℕ) (at : ℤ) (s : Showing) : Type 0 where
  pub same : (d : ℤ) → pos 0 ≤ℤ d → d <ℤ s.len
      → (sight x).shows (exact kind) (at +ℤ d)
      ≡ (sight s.item.now).shows (exact kind) (s.ticks +ℤ d)
  pub low : pos 0 ≤ℤ s.ticks
  pub high : s.ticks ≤ℤ pos most_ticks
  pub some : pos 0 <ℤ s.len
  pub most : s.len ≤ℤ pos (2 ^ 100)
  pub is_below : IsBelow x s.item.now

-- what a list shows at an instant, where it is a stack's or else a track's
abbrev pub list_shows : Bool → Listed → View → ℤ → Show
list_shows true l v u = stack_shows (looks v (items_of l)) u
list_shows false l v u = track_shows (looks v (items_of l)) u

-- the children of a track are no longer than a million seconds together
abbrev pub DoesFit : Bool → Listed → Type 0
DoesFit true l = Unit {0}
DoesFit false l = added (lengths l) ≤ most_ticks

-- from an instant of the list on, for so many ticks, a child of it alone is shown, from its own
-- instant on
pub record IsAlone (piled : Bool) (l : Listed) (at : ℤ) (s : Showing) : Type 0 where
  pub index : ℕ
  pub there : slice_get (items_of l) index ≡ Some s.item.now
  pub same : (v : View) (d : ℤ) → pos 0 ≤ℤ d → d <ℤ s.len
      → list_shows piled l v (at +ℤ d) ≡ (sight s.item.now).shows v (s.ticks +ℤ d)
  pub low : pos 0 ≤ℤ s.ticks
  pub high : s.ticks ≤ℤ pos most_ticks
  pub some : pos 0 <ℤ s.len

-- the item shows what the list of its children shows, and plays at its own speed
pub record IsPlain (x : ItemOf Listed) (kind : List ℕ) (piled : Bool) (l : Listed) : Type 0 where
  pub shows : (u : ℤ) → (sight x).shows (exact kind) u
      ≡ list_shows piled l (exact kind) (media_at (trimmed_start x) (speed_of x) u)
  pub speed : speed_of x ≡ pos 1000000
  pub sound : AreFaultless l
  pub fits : DoesFit piled l
  pub counted : count_of x ≡ count l + 1
  pub clips : clips_of_item x ≡ clips_in l

-- from an instant of a root child on, up to the end of the part, the part's item shows the same
pub record IsPart (x : ItemOf Listed) (from : ℤ) (p : Part) : Type 0 where
  pub same : (at : ℤ) → from ≤ℤ at → at <ℤ p.past
      → (sight x).shows (exact (kind_of x)) at
      ≡ (sight p.item.now).shows (exact (kind_of x)) (at +ℤ p.ahead)
  pub low : (pos 0 -ℤ pos most_ticks) ≤ℤ p.ahead
  pub high : p.ahead ≤ℤ pos most_ticks
  pub is_below : IsBelow x p.item.now

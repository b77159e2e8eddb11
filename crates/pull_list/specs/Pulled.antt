-- The pull list of a timeline: for each source the frames that are asked of an archive, with
-- handles, as spans of frame numbers.
use Rattle.std.specs.Prelude.{◌≡◌, ◌⊎◌, ◌++◌, ◌∷◌, [], ℕ, ℤ, pos, ◌+ℤ◌, ◌≤ℤ◌, ◌<ℤ◌, List, All, AllPairs, Contains, map}
use Rattle.otio_model.specs.declared.compositions.Clip.{Clip as ClipRow}
use Rattle.otio_model.specs.declared.timelines.Timeline.{Timeline}
use Rattle.coord.specs.Keys.{frame_rate}
use Rattle.show_prog.specs.Pictures.{key_of}
use Rattle.pull_list.specs.Used.{ClipGroup}
use Rattle.pull_list.specs.Wanted.{IsOf, IsWanted, clips_of}
use Rattle.pull_list.specs.declared.spans.PullSpan.{PullSpan}

-- frames of a group that follow one another: the number of the first, and how many they are
pub record Stretch : Type 0 where
  pub group : ClipGroup
  pub first : ℤ
  pub count : ℤ

-- the number after the last
abbrev pub past : Stretch → ℤ
past s = s.first +ℤ s.count

-- it is one of the numbers
abbrev pub IsIn : Stretch → ℤ → Type 0
IsIn s v = (s.first ≤ℤ v) × (v <ℤ past s)

-- some stretch of the group has the number
pub record HasFrameOf (stretches : List Stretch) (g : ClipGroup) (v : ℤ) : Type 0 where
  pub stretch : Stretch
  pub among : Contains stretches stretch
  pub group : stretch.group ≡ g
  pub number : IsIn stretch v

-- among clips the first of one group stands before the first of the other
pub record StandsFirst (clips : List ClipRow) (one other : ClipGroup) : Type 0 where
  pub ahead : List ClipRow
  pub first : ClipRow
  pub after : List ClipRow
  pub clips_are : clips ≡ ahead ++ first ∷ after
  pub is_first : IsOf one first
  pub not_yet : All (λ c. IsOf other c → ⊥) (ahead ++ first ∷ [])

-- one stretch stands before another: of one group it ends earlier, and a number that neither has
-- lies between them; of two groups, the first clip of its group stands first in the document
abbrev pub Precedes : Timeline → Stretch → Stretch → Type 0
Precedes t a b =
    ((a.group ≡ b.group) × (past a <ℤ b.first)) ⊎ StandsFirst (clips_of t) a.group b.group

-- for each group exactly the wanted frames, in stretches that have frames, are in order and don't
-- touch
pub record IsPullList (t : Timeline) (handles : ℕ) (stretches : List Stretch) : Type 0 where
  pub all : (g : ClipGroup) (v : ℤ) → IsWanted t handles g v → HasFrameOf stretches g v
  pub only : (g : ClipGroup) (v : ℤ) → HasFrameOf stretches g v → IsWanted t handles g v
  pub some : All (λ s. pos 0 <ℤ s.count) stretches
  pub ordered : AllPairs (Precedes t) stretches

-- the stretch that a span is
abbrev pub stretch_of : PullSpan → Stretch
stretch_of s = record {
  group = record { key = key_of s.key; rate = frame_rate s.rate };
  first = s.first;
  count = s.count;
}

abbrev pub stretches_of : List PullSpan → List Stretch
stretches_of spans = map stretch_of spans

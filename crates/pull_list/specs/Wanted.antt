-- Which frames of media are wanted: those that a timeline uses, and with handles those near them
-- that are in the available range of a clip of the same media (`available_range` of
-- OpenTimelineIO's media references).
use Rattle.std.specs.Prelude.{◌≡◌, ℕ, ℤ, pos, ◌-ℤ◌, ◌≤ℤ◌, List, map, Option, Some, None, Contains}
use Rattle.tick_time.specs.Times.{Holds}
use Rattle.tick_time.specs.declared.spans.Span.{Span}
use Rattle.otio_model.specs.Lengths.{clip_range}
use Rattle.otio_model.specs.declared.compositions.Clip.{Clip as ClipRow}
use Rattle.otio_model.specs.declared.timelines.Timeline.{Timeline}
use Rattle.coord.specs.Looks.{FrameRate}
use Rattle.coord.specs.Keys.{key_of, media_rate}
use Rattle.coord.specs.Images.{frame_number}
use Rattle.show_prog.specs.Spots.{Spot, spots}
use Rattle.pull_list.specs.Used.{ClipGroup, IsUsed}

-- the clips of a timeline at all levels, in document order, disabled ones too
abbrev pub clips_of : Timeline → List ClipRow
clips_of t = map (λ (s : Spot). s.clip) (spots t.tracks.children)

-- the clip is one of the group
abbrev pub IsOf : ClipGroup → ClipRow → Type 0
IsOf g c = (key_of c ≡ g.key) × (media_rate c ≡ Some g.rate)

-- an instant of a range of media lies in the frame of this number
pub record HasFrame (range : Span) (rate : FrameRate) (v : ℤ) : Type 0 where
  pub instant : ℤ
  pub held : Holds range.start.ticks range.len.ticks instant
  pub number : frame_number instant rate ≡ v

-- the frame is available: there is no range of media, or the frame has an instant of it
abbrev pub HasAvailable : Option Span → FrameRate → ℤ → Type 0
HasAvailable None rate v = Unit {0}
HasAvailable (Some range) rate v = HasFrame range rate v

-- some clip of the group has the frame available, whether it is shown or not
pub record IsAvailable (t : Timeline) (g : ClipGroup) (v : ℤ) : Type 0 where
  pub clip : ClipRow
  pub among : Contains (clips_of t) clip
  pub one : IsOf g clip
  pub has : HasAvailable (clip_range clip) g.rate v

-- the numbers are at most so far apart
abbrev pub AreNear : ℕ → ℤ → ℤ → Type 0
AreNear most u v = ((u -ℤ v) ≤ℤ pos most) × ((v -ℤ u) ≤ℤ pos most)

-- with handles of so many frames a frame is wanted where it is used, or where it is available and a
-- frame is used that is at most so far away
pub data IsWanted (t : Timeline) (handles : ℕ) (g : ClipGroup) (v : ℤ) : Type 0 where
  Used : IsUsed t g v → IsWanted t handles g v
  Handle : (u : ℤ) → IsUsed t g u → AreNear handles u v → IsAvailable t g v
      → IsWanted t handles g v

-- What timelines show at each record frame.
use Rattle.std.specs.Prelude.{ℕ, ℤ, pos, ◌-ℤ◌, ◌*ℤ◌, cond, List, [], ◌∷◌, map, Option, Some, None, slice_get, unwrap_or}
use Rattle.std.specs.Int.{int_div_euclid}
use Rattle.tick_time.specs.Rates.{frame}
use Rattle.otio_model.specs.declared.compositions.Clip.{Clip as ClipRow}
use Rattle.otio_model.specs.declared.compositions.ItemOf.{ItemOf}
use Rattle.otio_model.specs.declared.compositions.ItemOf.TheVariants.{Clip, Gap, Transition, Stack, Track}
use Rattle.otio_model.specs.declared.compositions.Listed.{Listed, fold-Listed}
use Rattle.otio_model.specs.declared.compositions.Listed.TheOpen.{Listed-F}
use Rattle.otio_model.specs.declared.timelines.Timeline.{Timeline}
use Rattle.otio_model.specs.Trees.{items_of}
pub use Rattle.otio_model.specs.Trees.{kind_of}
use Rattle.otio_model.specs.Overlaps.{within}
use Rattle.otio_model.specs.Lengths.{or_zero}
use Rattle.coord.specs.Looks.{Show, Blank, FrameRate}
use Rattle.coord.specs.Keys.{frame_rate, media_rate}
use Rattle.coord.specs.Sights.{viewer, sight}

-- the first that there is
abbrev pub first_of : {A : Type 0} → List (Option A) → Option A
first_of [] = None
first_of (None ∷ l) = first_of l
first_of ((Some a) ∷ l) = Some a

-- a clip itself, else the first clip below an item, where the function gives that of its children
abbrev pub clip_by : {C : Type 0} → (C → Option ClipRow) → ItemOf C → Option ClipRow
clip_by f (Clip c) = Some c
clip_by f (Gap g) = None
clip_by f (Transition t) = None
clip_by f (Stack s) = f s.children
clip_by f (Track t) = f t.children

abbrev pub clip_step : Listed-F (Option ClipRow) → Option ClipRow
clip_step l = first_of (map (clip_by (λ c. c)) l.list)

-- the first clip among children and below them, in document order
abbrev pub first_clip : Listed → Option ClipRow
first_clip = fold-Listed (Option ClipRow) clip_step

abbrev pub rate_24 : FrameRate
rate_24 = record { num = pos 24; den = pos 1 }

-- the rate of a clip's media, or 24 where it has no range
abbrev pub rate_of_clip : ClipRow → FrameRate
rate_of_clip c = unwrap_or (media_rate c) rate_24

-- that of a clip, or 24 where there is none
abbrev pub clip_rate : Option ClipRow → FrameRate
clip_rate None = rate_24
clip_rate (Some c) = rate_of_clip c

-- the record rate: of the start, else of the first clip's media, else 24
abbrev pub record_rate : Timeline → FrameRate
record_rate t =
    elim t.global_start_time [
      | None ↦ clip_rate
          (first_clip t.tracks.children)
      | Some start ↦ frame_rate start.rate
    ]

-- the ticks of a frame
abbrev pub frame_ticks : FrameRate → ℕ
frame_ticks r = frame r.num r.den

-- the number of the first record frame
abbrev pub start_frame : Timeline → ℤ
start_frame t =
    elim t.global_start_time [
      | None ↦ pos 0
      | Some start ↦ int_div_euclid start.ticks
          (pos (frame_ticks (frame_rate start.rate)))
    ]

-- what a root child shows at u ticks, Blank outside its length
abbrev pub child_shows : (FrameRate → FrameRate) → ItemOf Listed → ℤ → Show
child_shows rate_kept x u = cond (within (pos 0) (pos (or_zero (sight x).length)) u)
    ((sight x).shows (viewer rate_kept (kind_of x)) u) Blank

-- what a root child shows, Blank where there is none
abbrev pub shown_by : (FrameRate → FrameRate) → Option (ItemOf Listed) → ℤ → Show
shown_by rate_kept None u = Blank
shown_by rate_kept (Some x) u = child_shows rate_kept x u

-- what the root child k shows at u ticks
abbrev pub at_by : (FrameRate → FrameRate) → Timeline → ℕ → ℤ → Show
at_by rate_kept t k u = shown_by rate_kept (slice_get (items_of t.tracks.children) k) u

-- the same, with the media's whole rates
abbrev pub at : Timeline → ℕ → ℤ → Show
at = at_by (λ rate. rate)

-- the instant of a record frame, in ticks from the start
abbrev pub instant : Timeline → ℤ → ℤ
instant t n = (n -ℤ start_frame t) *ℤ pos (frame_ticks (record_rate t))

-- what the root child k shows at record frame n
abbrev pub program : Timeline → ℕ → ℤ → Show
program t k n = at t k (instant t n)

-- The ends of a window.
use Rattle.std.specs.Prelude.{◌≡◌, ℤ, pos, ◌*ℤ◌, ◌≤ℤ◌, ◌<ℤ◌, true, List, Some, None}
use Rattle.tick_time.specs.declared.times.Time.{Time}
use Rattle.otio_model.specs.declared.compositions.ItemOf.{ItemOf}
use Rattle.otio_model.specs.declared.compositions.Listed.{Listed}
use Rattle.otio_model.specs.declared.timelines.Timeline.{Timeline}
use Rattle.otio_model.specs.Timelines.{bare}
use Rattle.edits.specs.After.{rate_of, frame_of}
use Rattle.flat.specs.Roots.{roots, with_roots}
use Rattle.flat.specs.Windowed.{from_start, is_window, window_tracks}

-- where the timeline starts, in ticks
abbrev pub first_ticks : Timeline → ℤ
first_ticks t = elim t.global_start_time [ None ↦ pos 0 | Some start ↦ start.ticks ]

-- the time of the first frame, and both ends in ticks from the timeline's start
pub record IsZone (t : Timeline) (a b : ℤ) (start : Time) (from to : ℤ) : Type 0 where
  pub window : is_window t a b ≡ true
  pub ticks : start.ticks ≡ a *ℤ frame_of t
  pub rate : start.rate ≡ rate_of t
  pub from_is : from ≡ from_start t a
  pub to_is : to ≡ from_start t b
  pub low : pos 0 ≤ℤ from
  pub wide : from <ℤ to
  pub high : to ≤ℤ pos 1411200000000000000000000

-- the timeline from one instant up to another, with another start
pub record IsCutTo (t : Timeline) (start : Time) (from to : ℤ) (r : Timeline) : Type 0 where
  pub tracks : List (ItemOf Listed)
  pub are : window_tracks (rate_of t) from to (roots t) ≡ Some tracks
  pub is : bare r ≡ bare (record (with_roots tracks t) { global_start_time = Some start })

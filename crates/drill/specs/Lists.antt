-- What becomes of the list of a timeline: the timeline that it conforms to.
use Rattle.std.specs.Prelude.{◌≡◌, ◌<◌, ◌^◌, ℕ, ℤ, List, false, Some, None, length}
use Rattle.otio_model.specs.declared.timelines.Timeline.{Timeline}
use Rattle.otio_model.specs.Counts.{count}
use Rattle.coord.specs.Soundness.{IsSound}
use Rattle.media_rows.specs.declared.row.MediaRow.{MediaRow}
use Rattle.edl_list.specs.declared.list.Channel.{Channel}
use Rattle.edl_list.specs.declared.list.EventList.{EventList}
use Rattle.edl_frames.specs.declared.reasons.Why.{Why}
use Rattle.edl_frames.specs.Carried.{IsListOf, not_carried}
use Rattle.edl_frames.specs.Channels.{on}
use Rattle.edl_frames.specs.Conformed.{IsTimelineOf}
use Rattle.drill.specs.declared.list_outcome.Listed.{Listed}
use Rattle.drill.specs.declared.list_outcome.Listed.TheVariants as listed

-- a list with these media doesn't carry the timeline: this is the first reason
abbrev pub IsReason : Timeline → List MediaRow → Why → Type 0
IsReason t rows why = (place : List ℕ) × (not_carried t (Some rows) false false ≡ Some (place, why))

-- the timeline has a list with these media, of so many events, that conforms to another timeline
-- with them
pub record Conforms (t : Timeline) (rows : List MediaRow) (events : ℕ) (again : Timeline)
    : Type 0 where
  pub carried : not_carried t (Some rows) false false ≡ None
  pub list : EventList
  pub is : IsListOf t (Some rows) false false list
  pub count : length list.events ≡ events
  pub timeline : IsTimelineOf list (Some rows) again

-- what becomes of the list of a timeline with these media
abbrev pub IsListed : Timeline → List MediaRow → Listed → Type 0
IsListed t rows (listed.List events again) = Conforms t rows events again
IsListed t rows (listed.No why) = IsReason t rows why

-- the timeline is sound, has no more items than can be counted, and shows on each channel, at each
-- record frame, what the other one shows
pub record Shows (t again : Timeline) : Type 0 where
  pub sound : IsSound again
  pub few : count again.tracks.children < 2 ^ 32
  pub same : (c : Channel) (n : ℤ) → on again c n ≡ on t c n

-- what is known of a timeline that a list of another one conforms to
abbrev pub KeepsFrames : Timeline → Listed → Type 0
KeepsFrames t (listed.List events again) = Shows t again
KeepsFrames t (listed.No why) = Unit {0}

-- That the text of a timeline's list keeps the timeline's frames.
use Rattle.std.specs.Prelude.{◌≡◌, ◌≤◌, ℕ, ℤ, Bool, false, List, Some, None}
use Rattle.limits.specs.Limits.{most_items}
use Rattle.tick_time.specs.declared.rates.Rate.{Rate}
use Rattle.otio_model.specs.declared.timelines.Timeline.{Timeline}
use Rattle.coord.specs.Keys.{frame_rate}
use Rattle.coord.specs.Programs.{record_rate}
use Rattle.coord.specs.Images.{Image}
use Rattle.edl_list.specs.declared.list.Channel.{Channel}
use Rattle.edl_list.specs.declared.list.EventList.{EventList}
use Rattle.edl_text.specs.Lists.{IsList}
use Rattle.media_rows.specs.Rows.{MediaRows}
use Rattle.edl_frames.specs.Channels.{on, on_reels}
use Rattle.edl_frames.specs.Refused.{IsAccepted}
use Rattle.edl_frames.specs.Counted.{item_count}
use Rattle.edl_frames.specs.Conformed.{IsTimelineOf}
use Rattle.edl_law.specs.Premises.{AreInRange}

-- what a timeline shows on a channel at a record frame; without a media list each clip is known by
-- its reel
abbrev pub seen_on : MediaRows → Timeline → Channel → ℤ → Image
seen_on None t c n = on_reels t c n
seen_on (Some rows) t c n = on t c n

-- each timeline that the list conforms to shows on each channel, at each record frame, what the
-- timeline shows
abbrev pub ConformsTo : EventList → MediaRows → Timeline → Type 0
ConformsTo list media t = (again : Timeline) → IsTimelineOf list media again
    → (c : Channel) (n : ℤ) → on again c n ≡ seen_on media t c n

-- The bytes, in the wide layout or the narrow one, keep the frames of a timeline, against a media
-- list or without one: at the record rate of the timeline they are one list and no other, and the
-- media list holds the events of that list. In the narrow layout it makes no more items than a
-- timeline may have. Where the media lie within a million seconds of 0, as those of each media list
-- do, there is a timeline that it conforms to, and each one shows what the first timeline shows.
pub record KeepsFrames (t : Timeline) (media : MediaRows) (wide : Bool) (bytes : List ℕ) : Type 0
  where
    pub rate : Rate
    pub at : frame_rate rate ≡ record_rate t
    pub read : EventList
    pub reads : IsList rate bytes read
    pub only : (other : EventList) → IsList rate bytes other → other ≡ read
    pub accepted : IsAccepted read media
    pub few : wide ≡ false → item_count read ≤ most_items
    pub there : AreInRange media → (again : Timeline) × IsTimelineOf read media again
    pub shows : ConformsTo read media t

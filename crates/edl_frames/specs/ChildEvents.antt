-- The events of the children of a track.
use Rattle.std.specs.Prelude.{ℕ, ◌+◌, ℤ, pos, ◌-ℤ◌, int_lt, cond, List, [], ◌∷◌, Option, Some, None, length, filter_map}
use Rattle.otio_model.specs.declared.compositions.Clip.{Clip as ClipRow}
use Rattle.otio_model.specs.declared.compositions.ItemOf.{ItemOf}
use Rattle.otio_model.specs.declared.compositions.ItemOf.TheVariants.{Clip, Gap, Transition, Stack, Track}
use Rattle.otio_model.specs.declared.compositions.Listed.{Listed}
use Rattle.otio_model.specs.Trees.{items_of}
use Rattle.edl_list.specs.declared.list.Channel.{Channel}
use Rattle.edl_list.specs.declared.list.Channel.TheVariants.{V, A, A2}
use Rattle.edl_list.specs.declared.list.Side.{Side}
use Rattle.edl_list.specs.declared.list.Event.{Event}
use Rattle.coord.specs.Looks.{Overlap}
use Rattle.coord.specs.Sights.{overlap_of}
use Rattle.edl_frames.specs.Channels.{channel_track}
use Rattle.edl_frames.specs.Jobs.{Job, frames_in, record_at}
use Rattle.edl_frames.specs.Seats.{Lap, Past, Seat, lap_at, seats, head, begin_of, end_of, clip_in, clip_before, is_there}
use Rattle.edl_frames.specs.Sides.{side_of, black_side, cross_in}

-- an event of a channel behind an overlap or none, from one instant of the track to another
abbrev pub event_by : Job → Channel → Past → Option Lap → Side → ℤ → ℤ → Event
event_by j c past lap to begin end =
    record {
      line = 0;
      channel = c;
      to = to;
      cross = cross_in j past lap;
      rec_in = record_at j begin;
      rec_out = record_at j end;
    }

-- the event to black over an overlap, where what goes out isn't black
abbrev pub black_event : Job → Channel → Past → Option Lap → Option Event
black_event j c past None = None
black_event j c past (Some lap) = cond (is_there (clip_before past.item))
    (Some (event_by j c past (Some lap) (black_side (frames_in j (lap.end -ℤ lap.begin)))
    lap.begin lap.end)) None

-- the event of a clip, where it has a length
abbrev pub clip_event : Job → Channel → Seat → ClipRow → Option Event
clip_event j c s clip =
    cond (int_lt (begin_of s) (end_of s))
    (Some (event_by j c s.past s.past.lap
    (side_of j clip s.start (begin_of s) (frames_in j (end_of s -ℤ begin_of s))) (begin_of s)
    (end_of s))) None

-- the event of an item: of the clip that it shows, else of black
abbrev pub item_event : Job → Channel → Seat → Option ClipRow → Option Event
item_event j c s None = black_event j c s.past s.past.lap
item_event j c s (Some clip) = clip_event j c s clip

-- a transition gives an event where nothing stands behind it
abbrev pub tail_event : Job → Channel → Seat → Overlap → List (ItemOf Listed) → Option Event
tail_event j c s o [] = black_event j c (record s.past { lap = lap_at s.start o })
    (lap_at s.start o)
tail_event j c s o (x ∷ l) = None

-- the event that a child gives, without its line
abbrev pub event_of : Job → Channel → Seat → Option Event
event_of j c s = elim (overlap_of s.item)
    [ None ↦ item_event j c s (clip_in s.item) | Some o ↦ tail_event j c s o s.next ]

-- the events of a track
abbrev pub track_events : Job → Channel → List (ItemOf Listed) → List Event
track_events j c items = filter_map (event_of j c) (seats (pos 0) head items)

-- the events of a channel: those of its track, none where it has none or where that is disabled
abbrev pub events_on : Job → Channel → Option (ItemOf Listed) → List Event
events_on j c None = []
events_on j c (Some (Clip r)) = []
events_on j c (Some (Gap r)) = []
events_on j c (Some (Transition r)) = []
events_on j c (Some (Stack r)) = []
events_on j c (Some (Track t)) = cond t.enabled (track_events j c (items_of t.children)) []

-- an event without its line
abbrev pub unnumbered : Event → Event
unnumbered e = record e { line = 0 }

-- how many events the three channels have
abbrev pub events_count : Job → List (ItemOf Listed) → ℕ
events_count j items = length (events_on j V (channel_track V items)) +
    (length (events_on j A (channel_track A items)) + length
    (events_on j A2 (channel_track A2 items)))

-- What a list shows at a record frame, from its events alone.
use Rattle.std.specs.Prelude.{ℕ, ◌==◌, ℤ, pos, ◌+ℤ◌, ◌-ℤ◌, ◌*ℤ◌, int_lt, Bool, ◌&&◌, cond, List, [], ◌∷◌, Option, Some, None, unsigned_abs, filter}
use Rattle.std.specs.Int.{int_div_euclid}
use Rattle.tick_time.specs.declared.rates.Rate.{Rate}
use Rattle.otio_model.specs.Overlaps.{within}
use Rattle.edl_list.specs.declared.list.Channel.{Channel}
use Rattle.edl_list.specs.declared.list.Reel.{Reel}
use Rattle.edl_list.specs.declared.list.Reel.TheVariants.{Black, Named}
use Rattle.edl_list.specs.declared.list.Side.{Side}
use Rattle.edl_list.specs.declared.list.Cross.{Cross}
use Rattle.edl_list.specs.declared.list.Cross.TheVariants.{Cut, Dissolve, Wipe}
use Rattle.edl_list.specs.declared.list.Event.{Event}
use Rattle.edl_list.specs.declared.list.EventList.{EventList}
use Rattle.edl_list.specs.Formed.{rank}
use Rattle.edl_list.specs.Speeds.{side_speed}
use Rattle.media_rows.specs.declared.row.MediaRow.{MediaRow}
use Rattle.media_rows.specs.Rows.{MediaRows, row_of}
use Rattle.coord.specs.Looks.{Key, Url, Reel as ReelKey, weight}
use Rattle.coord.specs.Images.{Image, Empty, Single, Mixture, Kind, Dissolve as IsDissolve, Wipe as IsWipe, is_empty}

-- a mix of a kind, of which so many parts of the whole are the second side; a mix of two that are
-- empty is empty
abbrev pub mix_of : Kind → Image → Image → ℤ → ℤ → Image
mix_of kind from to part whole = cond (is_empty from && is_empty to) Empty
    (Mixture kind from to (weight (unsigned_abs part) (unsigned_abs whole)))

-- the URL that is listed of a reel, else the reel itself
abbrev pub url_or_reel : Option MediaRow → List ℕ → Key
url_or_reel None reel = ReelKey reel
url_or_reel (Some row) reel = Url row.url

-- what a reel's frames are known by
abbrev pub reel_key : MediaRows → List ℕ → Key
reel_key media reel = url_or_reel (row_of media reel) reel

-- the source frame that a side shows in the frame k from where it begins
abbrev pub source_frame : Rate → Side → ℤ → ℤ
source_frame rate side k =
    side.src_in +ℤ int_div_euclid (k *ℤ pos (side_speed rate side)) (pos 1000000)

abbrev pub reel_shows : Rate → MediaRows → Side → Reel → ℤ → Image
reel_shows rate media side Black k = Empty
reel_shows rate media side (Named reel) k =
    Single (reel_key media reel) (source_frame rate side k)

-- what a side shows in the frame k from where it begins
abbrev pub side_shows : Rate → MediaRows → Side → ℤ → Image
side_shows rate media side k = reel_shows rate media side side.reel k

-- what an event shows in its frame k: in so many frames from the first one a mix, and else the
-- incoming side
abbrev pub crossing_shows : Rate → MediaRows → Kind → ℕ → Side → Side → ℤ → Image
crossing_shows rate media kind frames from to k = cond (int_lt k (pos frames))
    (mix_of kind (side_shows rate media from k) (side_shows rate media to k) k (pos frames))
    (side_shows rate media to k)

abbrev pub cross_shows : Rate → MediaRows → Cross → Side → ℤ → Image
cross_shows rate media Cut to k = side_shows rate media to k
cross_shows rate media (Dissolve frames from) to k =
    crossing_shows rate media IsDissolve frames from to k
cross_shows rate media (Wipe code frames from) to k =
    crossing_shows rate media (IsWipe code) frames from to k

abbrev pub event_shows : Rate → MediaRows → Event → ℤ → Image
event_shows rate media e k = cross_shows rate media e.cross e.to k

-- what the event that holds the record frame n shows there, and nothing where none does
abbrev pub events_show : Rate → MediaRows → List Event → ℤ → Image
events_show rate media [] n = Empty
events_show rate media (e ∷ es) n = cond (within e.rec_in e.rec_out n)
    (event_shows rate media e (n -ℤ e.rec_in)) (events_show rate media es n)

abbrev pub is_on : Channel → Event → Bool
is_on c e = rank c == rank e.channel

-- the events of a channel, in order
abbrev pub on_channel : Channel → List Event → List Event
on_channel c es = filter (is_on c) es

-- what a list shows on a channel at the record frame n
abbrev pub shown : EventList → MediaRows → Channel → ℤ → Image
shown list media c n = events_show list.rate media (on_channel c list.events) n

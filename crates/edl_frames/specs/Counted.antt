-- How many items stand for a list.
use Rattle.std.specs.Prelude.{ℕ, ◌+◌, ℤ, int_lt, cond, List, [], ◌∷◌, Option, Some, None}
use Rattle.tick_time.specs.declared.rates.Rate.{Rate}
use Rattle.edl_list.specs.declared.list.Channel.{Channel}
use Rattle.edl_list.specs.declared.list.Channel.TheVariants.{V, A, A2}
use Rattle.edl_list.specs.declared.list.Side.{Side}
use Rattle.edl_list.specs.declared.list.Event.{Event}
use Rattle.edl_list.specs.declared.list.EventList.{EventList}
use Rattle.edl_frames.specs.Shown.{on_channel}
use Rattle.edl_frames.specs.Conformed.{Pair, pair_of, serves, first_record, has_track}

-- what stands before the item of a pair: the transition, and the outgoing side where nothing serves
abbrev pub pair_count : Rate → Option Event → ℤ → Side → ℕ
pair_count rate before at from = cond (serves rate before at from) 1 2

-- a gap, where an event begins later
abbrev pub gap_count : ℤ → Event → ℕ
gap_count at e = cond (int_lt at e.rec_in) 1 0

-- what stands before the item of an event
abbrev pub lead_count : Rate → Option Event → ℤ → Option Pair → ℕ
lead_count rate before at None = 0
lead_count rate before at (Some p) = pair_count rate before at p.from

-- the items of an event whose channel's track has come to a record frame
abbrev pub event_count : Rate → Option Event → ℤ → Event → ℕ
event_count rate before at e =
    (gap_count at e + lead_count rate before e.rec_in (pair_of e.cross)) + 1

-- the items of a channel's events
abbrev pub channel_count : Rate → Option Event → ℤ → List Event → ℕ
channel_count rate before at [] = 0
channel_count rate before at (e ∷ es) =
    event_count rate before at e + channel_count rate (Some e) e.rec_out es

-- a channel's track and its items, where it has one
abbrev pub track_count : EventList → Channel → ℕ
track_count list c = cond (has_track list.events c)
    (1 + channel_count list.rate None (first_record list.events) (on_channel c list.events)) 0

-- all items of the list's timeline
abbrev pub item_count : EventList → ℕ
item_count list = track_count list V + (track_count list A + track_count list A2)

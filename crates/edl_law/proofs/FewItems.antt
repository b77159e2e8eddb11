-- A list in the narrow layout conforms to few items.
use Rattle.std.proofs.Common.{◌+◌, ◌*◌, ◌≤◌, ℤ, Bool, true, false, cond, List, [], ◌∷◌, length, Option, Some, None, arith}
use Rattle.std.specs.Prelude.{int_lt}
use Rattle.limits.specs.Limits.{most_items}
use Rattle.tick_time.specs.declared.rates.Rate.{Rate}
use Rattle.edl_list.specs.declared.list.Channel.{Channel}
use Rattle.edl_list.specs.declared.list.Channel.TheVariants.{V, A, A2}
use Rattle.edl_list.specs.declared.list.Event.{Event}
use Rattle.edl_list.specs.declared.list.EventList.{EventList}
use Rattle.edl_list.specs.Layouts.{narrow, most_events}
use Rattle.edl_frames.specs.Shown.{on_channel}
use Rattle.edl_frames.specs.Conformed.{Pair, pair_of, serves, first_record, has_track}
use Rattle.edl_frames.specs.Counted.{lead_count, channel_count, track_count, item_count}
use Rattle.edl_law.proofs.ListDays.{count_all}

one_or_two : (b : Bool) → cond b 1 2 ≤ 2
one_or_two true = omega arith
one_or_two false = omega arith

one_or_none : (b : Bool) → cond b 1 0 ≤ 1
one_or_none true = omega arith
one_or_none false = omega arith

lead_few : (rate : Rate) (before : Option Event) (at : ℤ) (o : Option Pair)
    → lead_count rate before at o ≤ 2
lead_few rate before at None = omega arith
lead_few rate before at (Some p) = one_or_two (serves rate before at p.from)

channel_few : (rate : Rate) (before : Option Event) (at : ℤ) (es : List Event)
    → channel_count rate before at es ≤ 4 * length es
channel_few rate before at [] = omega arith
channel_few rate before at (e ∷ es) =
    let g = one_or_none (int_lt at e.rec_in) in
    let l = lead_few rate before e.rec_in (pair_of e.cross) in
    let r = channel_few rate (Some e) e.rec_out es in
    omega (arith, g, l, r)

track_few : (list : EventList) (c : Channel)
    → track_count list c ≤ 1 + 4 * length (on_channel c list.events)
track_few list c =
    by (has_track list.events c)
    (channel_few list.rate None (first_record list.events) (on_channel c list.events))
  where
    by : (b : Bool) → channel_count list.rate None (first_record list.events)
        (on_channel c list.events) ≤ 4 * length (on_channel c list.events)
        → cond b (1 + channel_count list.rate None (first_record list.events)
        (on_channel c list.events)) 0 ≤ 1 + 4 * length (on_channel c list.events)
    by true h = omega (arith, h)
    by false h = omega arith

pub few_items : (list : EventList) → length list.events ≤ most_events narrow
    → item_count list ≤ most_items
few_items list few =
    let all = count_all list.events in
    let v = track_few list V in let x = track_few list A in let y = track_few list A2 in
    omega (arith, few, all, v, x, y)

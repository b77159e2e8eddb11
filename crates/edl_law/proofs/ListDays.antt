-- The days of the record rate, and how many events a list has.
use Rattle.std.proofs.Common.{◌≡◌, refl, sym, ap, subst, ◌∙◌, ℕ, suc, ◌+◌, ◌==◌, ◌<◌, ◌≤◌, ℤ, pos, negsuc, Bool, true, false, cond, List, [], ◌∷◌, length, Option, Some, None, is_some, IsSome, Ok, option_map, unwrap_or, unsigned_abs, inr, arith}
use Rattle.std.specs.Prelude.{filter, nat_lt, All, IfSome, slice_index_or}
use Rattle.std.proofs.lemmas.Int.{ints}
use Rattle.std.proofs.lemmas.Bool.Decides.{nat_tests}
use Rattle.std.proofs.lemmas.List.{length-map}
use Rattle.tick_time.specs.declared.rates.Rate.{Rate}
use Rattle.smpte_tc.specs.declared.modes.Mode.{Mode}
use Rattle.smpte_tc.specs.Modes.{mode, mode_of}
use Rattle.smpte_tc.specs.Day.{counted_of}
use Rattle.smpte_tc.proofs.Dropping.{day_count}
use Rattle.smpte_tc.proofs.WrittenLabels.{mode_fair}
use Rattle.otio_model.specs.declared.timelines.Timeline.{Timeline}
use Rattle.otio_model.specs.Trees.{items_of}
use Rattle.edl_list.specs.declared.list.Channel.{Channel}
use Rattle.edl_list.specs.declared.list.Channel.TheVariants.{V, A, A2}
use Rattle.edl_list.specs.declared.list.Event.{Event}
use Rattle.edl_list.specs.declared.list.EventList.{EventList}
use Rattle.edl_list.specs.declared.list.Cross.{Cross}
use Rattle.edl_list.specs.declared.list.Cross.TheVariants.{Cut, Dissolve, Wipe}
use Rattle.edl_list.specs.Formed.{rank, IsFrame, IsEvent, IsCross}
use Rattle.edl_list.specs.Labelled.{outgoing, IsBelowDay, IsLabelled}
use Rattle.edl_list.specs.Layouts.{layout_of, most_events}
use Rattle.edl_list.proofs.DayLemmas.{dropped_mode}
use Rattle.smpte_tc.specs.Answers.{WritesAt}
use Rattle.smpte_tc.proofs.Labels.{labels_there}
use Rattle.edl_list.specs.Speeds.{day_of}
use Rattle.coord.specs.Keys.{frame_rate}
use Rattle.coord.specs.Programs.{record_rate}
use Rattle.edl_frames.specs.Shown.{is_on, on_channel}
use Rattle.media_rows.specs.Rows.{MediaRows}
use Rattle.edl_frames.specs.Channels.{channel_track}
use Rattle.edl_frames.specs.declared.reasons.Why.{Why}
use Rattle.edl_frames.specs.Seats.{is_there}
use Rattle.edl_frames.specs.Jobs.{mode_in, day_in, job_of}
use Rattle.edl_frames.specs.ChildEvents.{events_on, events_count, unnumbered}
use Rattle.edl_frames.specs.Carried.{not_carried, IsListOf}
use Rattle.edl_frames.specs.declared.reasons.Why.TheVariants as W
use Rattle.coord.specs.Soundness.{IsCalm}
use Rattle.edl_law.specs.Premises.{AreListed, IsFine}
use Rattle.edl_law.proofs.ListShows.{carried_all}
use Rattle.edl_law.proofs.WholeLists.{list_is_good}

-- ---- days

pub record DayHolds (rate : Rate) (drop : Bool) : Type 0 where
  pub long : 999 < day_of rate
  pub long_in : 999 < day_in (mode_in (frame_rate rate) drop)
  pub inside : day_in (mode_in (frame_rate rate) drop) ≤ day_of rate
  pub timecode : IsSome (mode_of rate false)

plain_day : (rate : Rate) (m : Mode) → mode_of rate false ≡ Some m → day_of rate ≡ length
    (counted_of m)
plain_day rate m e = ap (λ o. unwrap_or (option_map (λ (k : Mode). length (counted_of k)) o) 0) e

some_mode : (o : Option Mode) (m : Mode) → o ≡ Some m → IsSome o
some_mode o m e = ap is_some e

mode_there : (o : Option Mode) → is_there o ≡ true → (m : Mode) × (o ≡ Some m)
mode_there None e = absurd (cc e)
mode_there (Some m) e = (m, refl)

day_in_is : (o : Option Mode) (m : Mode) → o ≡ Some m → day_in o ≡ length (counted_of m)
day_in_is o m e = ap day_in e

pub day_holds : (rate : Rate) (drop : Bool) → is_there (mode_in (frame_rate rate) drop) ≡ true
    → DayHolds rate drop
day_holds rate false h =
    let m = mode_there (mode_of rate false) h in
    let fair = mode_fair rate false m.0 m.1 in
    let all = day_count m.0 fair.some fair.fewer in
    let some = fair.some in let fewer = fair.fewer in
    let day = plain_day rate m.0 m.1 in
    let here = day_in_is (mode_of rate false) m.0 m.1 in
    record {
      long = omega (arith, all, some, fewer, day);
      long_in =
          omega (arith, all, some, fewer, here);
      inside = omega (arith, here, day);
      timecode =
          some_mode (mode_of rate false) m.0 m.1;
    }
day_holds rate true h =
    let m = mode_there (mode_of rate true) h in
    let plain : mode_of rate false ≡ Some (mode m.0.nominal 0) = dropped_mode rate.num rate.den
    (unsigned_abs rate.den == 1001) (unsigned_abs rate.num == 30000)
    (unsigned_abs rate.num == 60000) m.0 refl refl refl m.1 in
    let fair = mode_fair rate true m.0 m.1 in
    let most = day_count m.0 fair.some fair.fewer in
    let all = day_count (mode m.0.nominal 0) fair.some (omega arith) in
    let some = fair.some in let fewer = fair.fewer in
    let day = plain_day rate (mode m.0.nominal 0) plain in
    let here = day_in_is (mode_of rate true) m.0 m.1 in
    record {
      long = omega (arith, all, some, day);
      long_in = omega (arith, most, some, fewer, here);
      inside = omega (arith, here, most, all, day);
      timecode = some_mode (mode_of rate false)
          (mode m.0.nominal 0) plain;
    }

-- ---- labels

-- a frame number of the day has a label
below_day : (rate : Rate) (drop : Bool) (n : ℤ)
    → IsFrame (day_in (mode_in (frame_rate rate) drop)) n → IsBelowDay rate drop n
below_day rate drop n h = by (mode_of rate drop) refl n h
  where
    by : (o : Option Mode) → mode_of rate drop ≡ o → (n : ℤ) → IsFrame (day_in o) n
        → IsBelowDay rate drop n
    by None e (pos k) f = let high = f.high in absurd (omega (arith, ints, high))
    by None e (negsuc k) f = let low = f.low in absurd (omega (arith, ints, low))
    by (Some m) e (negsuc k) f = let low = f.low in absurd (omega (arith, ints, low))
    by (Some m) e (pos k) f =
        let high = f.high in
        let label = labels_there m (mode_fair rate drop m e) k (omega (arith, ints, high)) in
        record {
          label = label.0;
          written = subst (λ o. WritesAt o (pos k) (Ok label.0)) (sym e) (k, refl, label.1);
        }

-- so has each number that an event is written with
event_labelled : (rate : Rate) (drop : Bool) (e : Event)
    → IsEvent (day_in (mode_in (frame_rate rate) drop)) e → IsLabelled rate drop e
event_labelled rate drop e h =
    record {
      outgoing_in = by e.cross h.cross;
      source_in = below_day rate drop e.to.src_in h.to.src_in;
      source_out = below_day rate drop e.to.src_out h.to.src_out;
      record_in = below_day rate drop e.rec_in h.rec_in;
      record_out = below_day rate drop e.rec_out h.rec_out;
    }
  where
    by : (c : Cross) → IsCross (day_in (mode_in (frame_rate rate) drop)) e.rec_in e.rec_out c
        → IfSome (outgoing c) (λ from. IsBelowDay rate drop from.src_in)
    by Cut k = tt
    by (Dissolve n from) k = below_day rate drop from.src_in k.1.src_in
    by (Wipe code n from) k = below_day rate drop from.src_in k.2.src_in

all_labelled : (rate : Rate) (drop : Bool) (es : List Event)
    → All (IsEvent (day_in (mode_in (frame_rate rate) drop))) es → All (IsLabelled rate drop) es
all_labelled rate drop es h =
    λ k d l. event_labelled rate drop (slice_index_or es k d) (h k d l)

-- ---- counts

pub count_all : (es : List Event) → length es ≡ length (filter (is_on V) es) +
    (length (filter (is_on A) es) + length (filter (is_on A2) es))
count_all [] = omega arith
count_all (e ∷ es) = let n = count_all es in by e.channel n
  where
    by : (c : Channel) → length es ≡ length (filter (is_on V) es) +
        (length (filter (is_on A) es) + length (filter (is_on A2) es))
        → suc (length es) ≡ length (cond (0 == rank c) (e ∷ filter (is_on V) es)
        (filter (is_on V) es)) +
        (length (cond (1 == rank c) (e ∷ filter (is_on A) es) (filter (is_on A) es)) + length
        (cond (2 == rank c) (e ∷ filter (is_on A2) es) (filter (is_on A2) es)))
    by V n = omega (arith, n)
    by A n = omega (arith, n)
    by A2 n = omega (arith, n)

not_more : (a b : ℕ) → nat_lt a b ≡ false → b ≤ a
not_more a b e = grind (arith, nat_tests)

-- ---- the list of a timeline

pub list_is_fine : (t : Timeline) (list : EventList) (media : MediaRows) (drop wide : Bool)
    → IsCalm t → AreListed media → not_carried t media drop wide ≡ None
    → IsListOf t media drop wide list → IsFine list media drop wide
list_is_fine t list media drop wide calm rows carried i =
    let items = items_of t.tracks.children in
    let all_said = carried_all t media drop wide carried in
    let timed : is_there (mode_in (record_rate t) drop) ≡ true =
    there (is_there (mode_in (record_rate t) drop)) all_said.timed in
    let day = day_holds list.rate drop (ap (λ r. is_there (mode_in r drop)) i.rate ∙ timed) in
    let good = list_is_good t list media drop wide (day_of list.rate) calm rows day.long day.inside
    carried i in
    record {
      formed = record {
        timecode = inr day.timecode;
        events = good.events;
        order = i.order;
        apart = good.apart;
      };
      even = good.even;
      carried = good.carried;
      fits = record {
        few =
            let n = few_of (nat_lt (most_events (layout_of wide)) (events_count (job_of t media drop
            wide) items)) refl all_said.few in
            let v = counted V in let x = counted A in let y = counted A2 in
            let all = count_all list.events in
            omega (arith, n, v, x, y, all);
        reels = good.reels;
      };
      labels = all_labelled list.rate drop list.events
          (list_is_good t list media drop wide (day_in (mode_in (frame_rate list.rate) drop)) calm
          rows day.long_in (omega arith) carried i).events;
    }
  where
    there : (b : Bool) → ◌≡◌ {A = Option Why} (cond b None (Some W.NoTimecode)) None → b ≡ true
    there true e = refl
    there false e = absurd (cc e)

    few_of : (b : Bool) → nat_lt (most_events (layout_of wide))
        (events_count (job_of t media drop wide) (items_of t.tracks.children)) ≡ b
        → ◌≡◌ {A = Option Why} (cond b (Some W.Events) None) None
        → events_count (job_of t media drop wide) (items_of t.tracks.children)
        ≤ most_events (layout_of wide)
    few_of true e f = absurd (cc f)
    few_of false e f = not_more (most_events (layout_of wide))
        (events_count (job_of t media drop wide) (items_of t.tracks.children)) e

    counted : (c : Channel) → length (filter (is_on c) list.events) ≡ length
        (events_on (job_of t media drop wide) c (channel_track c (items_of t.tracks.children)))
    counted c = sym (length-map (on_channel c list.events) unnumbered) ∙ ap length (i.events c)

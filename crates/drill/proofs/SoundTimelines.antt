-- The list of a timeline conforms to a sound timeline.
use Rattle.std.proofs.Common.{◌≡◌, sym, ap, subst, ◌∙◌, ℕ, zero, suc, ℤ, pos, ◌≤ℤ◌, Bool, true, false, cond, List, [], ◌∷◌, Option, Some, None, length, slice_get, refl, arith}
use Rattle.std.specs.Prelude.{All, IfSome}
use Rattle.std.specs.Int.{int_min}
use Rattle.std.proofs.lemmas.Int.{ints, clamps}
use Rattle.std.proofs.lemmas.List.Elements.{All-head, All-tail, All-filter}
use Rattle.tick_time.specs.declared.rates.Rate.{Rate}
use Rattle.tick_time.specs.declared.times.Time.{Time}
use Rattle.tick_time.specs.Rates.{frame}
use Rattle.tick_time.specs.Times.{IsWhole}
use Rattle.tick_time.proofs.Wholes.{whole-product}
use Rattle.otio_model.specs.declared.compositions.ItemOf.{ItemOf}
use Rattle.otio_model.specs.declared.compositions.Listed.{Listed}
use Rattle.otio_model.specs.declared.timelines.Timeline.{Timeline}
use Rattle.otio_model.specs.Trees.{items_of}
use Rattle.coord.specs.Programs.{record_rate}
use Rattle.coord.specs.Soundness.{IsCalm, IsFaultless, IsFaultlessItem, IsSound}
use Rattle.coord.proofs.JudgingLemmas.{sound_all}
use Rattle.edl_list.specs.declared.list.Channel.{Channel}
use Rattle.edl_list.specs.declared.list.Channel.TheVariants.{V, A, A2}
use Rattle.edl_list.specs.declared.list.Event.{Event}
use Rattle.edl_list.specs.declared.list.EventList.{EventList}
use Rattle.edl_list.specs.Speeds.{day_of}
use Rattle.edl_list.proofs.DayLemmas.{IsPacedDay, day_paced}
use Rattle.media_rows.specs.Rows.{MediaRows}
use Rattle.edl_frames.specs.Shown.{is_on, on_channel}
use Rattle.edl_frames.specs.Conformed.{HasFrames, AreTracks, none, used, unused, first_record, least_in, IsTimelineOf, IsTrackOf}
use Rattle.edl_frames.specs.Jobs.{mode_in}
use Rattle.edl_frames.specs.Seats.{is_there}
use Rattle.edl_frames.specs.declared.reasons.Why.{Why}
use Rattle.edl_frames.specs.declared.reasons.Why.TheVariants as W
use Rattle.edl_frames.specs.Carried.{not_carried, IsListOf}
use Rattle.edl_law.specs.Premises.{AreListed}
use Rattle.edl_law.proofs.CalmTracks.{timeline_calm}
use Rattle.edl_law.proofs.ListDays.{day_holds, list_is_fine}
use Rattle.edl_law.proofs.ListShows.{carried_all}
use Rattle.drill.proofs.SourceOuts.{list_comes_out}
use Rattle.drill.proofs.FaultlessTracks.{IsKnown, items_placed, track_faultless}

-- ---- the least record in

-- the events begin and end within the day
record IsFirst (day : ℕ) (z : ℤ) : Type 0 where
  low : pos 0 ≤ℤ z
  high : z ≤ℤ pos day

least : (rate : Rate) (z : ℤ) (es : List Event) → IsFirst (day_of rate) z → All (IsKnown rate) es
    → IsFirst (day_of rate) (least_in z es)
least rate z [] h k = h
least rate z (e ∷ es) h k =
    let i = (All-head (IsKnown rate) e es k).event.rec_in in
    let low = i.low in
    let high = i.high in
    let before = h.low in
    let after = h.high in
    least rate (int_min z e.rec_in) es
    (record {
      low = omega (arith, ints, clamps, low, before);
      high = omega (arith, ints, clamps, high, after);
    })
    (All-tail (IsKnown rate) e es k)

first_in : (rate : Rate) (es : List Event) → All (IsKnown rate) es
    → IsFirst (day_of rate) (first_record es)
first_in rate [] k = record { low = omega (arith, ints); high = omega (arith, ints) }
first_in rate (e ∷ es) k =
    let i = (All-head (IsKnown rate) e es k).event.rec_in in
    let low = i.low in
    let high = i.high in
    least rate e.rec_in es (record { low = low; high = omega (arith, ints, high) })
    (All-tail (IsKnown rate) e es k)

-- ---- the tracks

one_track : (list : EventList) (media : MediaRows) (c : Channel) (x : ItemOf Listed)
    → IsPacedDay list.rate → All (IsKnown list.rate) list.events → IsTrackOf list media c x
    → IsFaultlessItem x
one_track list media c x p known i =
    let f = first_in list.rate list.events known in
    subst IsFaultlessItem (sym i.is)
    (track_faultless list.rate (first_record list.events) i.track p f.low i.source i.effects
    (items_placed list.rate media None (first_record list.events) (on_channel c list.events)
    (items_of i.track.children) p f.high
    (All-filter (is_on c) (IsKnown list.rate) list.events known) i.children))

track_at : (list : EventList) (media : MediaRows) (cs : List Channel) (xs : List (ItemOf Listed))
    → IsPacedDay list.rate → All (IsKnown list.rate) list.events → AreTracks list media cs xs
    → (k : ℕ) (y : ItemOf Listed) → slice_get xs k ≡ Some y → IsFaultlessItem y
track_at list media cs xs p known none zero y e = absurd (cc e)
track_at list media cs xs p known none (suc k) y e = absurd (cc e)
track_at list media cs xs p known (used c others x rest h i more) zero y e =
    let same : x ≡ y = cc e in
    subst IsFaultlessItem same (one_track list media c x p known i)
track_at list media cs xs p known (used c others x rest h i more) (suc k) y e =
    track_at list media others rest p known more k y e
track_at list media cs xs p known (unused c others rest h more) k y e =
    track_at list media others xs p known more k y e

-- ---- the timeline

on_frame : (rate : Rate) (n : ℤ) (o : Option Time) → HasFrames rate n o
    → IfSome o (λ s. IsWhole s.ticks (frame s.rate.num s.rate.den))
on_frame rate n o h =
    subst (λ q. IfSome q (λ s. IsWhole s.ticks (frame s.rate.num s.rate.den))) (sym h.1)
    (subst (λ (r : Rate). IsWhole h.0.ticks (frame r.num r.den)) (sym h.2.kept)
    (subst (λ z. IsWhole z (frame rate.num rate.den)) (sym h.2.ticks)
    (whole-product n (frame rate.num rate.den))))

-- a timeline of known events has no fault
timeline_faultless : (list : EventList) (media : MediaRows) (t : Timeline)
    → IsPacedDay list.rate → All (IsKnown list.rate) list.events → IsTimelineOf list media t
    → IsFaultless t
timeline_faultless list media t p known i = record {
  start = on_frame list.rate (first_record list.events) t.global_start_time i.start;
  items = sound_all t.tracks.children (length (items_of t.tracks.children)) (omega arith)
      (λ k x lt e. track_at list media (V ∷ A ∷ A2 ∷ []) (items_of t.tracks.children) p known
      i.tracks k x e);
}

-- the rate of a list of a timeline has timecode
timed : (t : Timeline) (list : EventList) (media : MediaRows) (drop wide : Bool)
    → not_carried t media drop wide ≡ None → IsListOf t media drop wide list
    → IsPacedDay list.rate
timed t list media drop wide carried i =
    let there = by (is_there (mode_in (record_rate t) drop))
    (carried_all t media drop wide carried).timed in
    day_paced list.rate
    (day_holds list.rate drop (ap (λ r. is_there (mode_in r drop)) i.rate ∙ there)).timecode
  where
    by : (b : Bool) → ◌≡◌ {A = Option Why} (cond b None (Some W.NoTimecode)) None → b ≡ true
    by true e = refl
    by false e = absurd (cc e)

-- the list of a carried timeline conforms to a sound one
pub conformed_sound : (t again : Timeline) (list : EventList) (media : MediaRows)
    (drop wide : Bool) → IsCalm t → AreListed media → not_carried t media drop wide ≡ None
    → IsListOf t media drop wide list → IsTimelineOf list media again → IsSound again
conformed_sound t again list media drop wide calm rows carried i is =
    let fine = list_is_fine t list media drop wide calm rows carried i in
    let out = list_comes_out t list media drop wide calm carried i in
    record {
      faultless = timeline_faultless list media again (timed t list media drop wide carried i)
          (λ k d l. record { event = fine.formed.events k d l; out = out k d l }) is;
      calm = timeline_calm list media again is;
    }

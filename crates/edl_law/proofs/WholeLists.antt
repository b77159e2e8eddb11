-- The list of a timeline that is carried: well formed, even, and carried by its media list.
use Rattle.std.proofs.Common.{◌≡◌, sym, subst, ℕ, ◌<◌, ◌≤◌, ℤ, pos, ◌+ℤ◌, ◌&&◌, Bool, true, false, not, cond, List, [], ◌∷◌, ◌++◌, map, Option, Some, None, arith}
use Rattle.std.specs.Prelude.{All, AllPairs, filter, filter_map, slice_index_or}
use Rattle.std.specs.List.{cons_option}
use Rattle.std.proofs.lemmas.List.Elements.{All-cons, All-head, All-tail}
use Rattle.otio_model.specs.declared.compositions.ItemOf.{ItemOf}
use Rattle.otio_model.specs.declared.compositions.Listed.{Listed}
use Rattle.otio_model.specs.declared.timelines.Timeline.{Timeline}
use Rattle.edl_list.specs.declared.list.Channel.{Channel}
use Rattle.edl_list.specs.declared.list.Event.{Event}
use Rattle.edl_list.specs.declared.list.EventList.{EventList}
use Rattle.edl_list.specs.Formed.{IsEvent, AreApart}
use Rattle.edl_list.specs.Layouts.{layout_of, FitsEvent}
use Rattle.edl_list.specs.Alike.{IsEven}
use Rattle.coord.specs.Looks.{Overlap}
use Rattle.coord.specs.Keys.{frame_rate}
use Rattle.coord.specs.Sights.{overlap_of}
use Rattle.coord.specs.Programs.{start_frame}
use Rattle.edl_frames.specs.Shown.{is_on, on_channel}
use Rattle.media_rows.specs.Rows.{MediaRows}
use Rattle.edl_frames.specs.Refused.{IsAccepted}
use Rattle.edl_frames.specs.declared.reasons.Why.{Why}
use Rattle.edl_frames.specs.Jobs.{Job, mode_in, day_in, is_in_day, is_on_frame}
use Rattle.edl_frames.specs.Seats.{Past, head, seats, Seat, past_by, length_in, is_item, clip_in}
use Rattle.edl_frames.specs.ChildReasons.{first_that, reason_of, item_tests, shown_tests, transition_tests, is_past_record}
use Rattle.edl_frames.specs.ChildEvents.{event_of, unnumbered}
use Rattle.edl_frames.specs.Carried.{not_carried, IsListOf}
use Rattle.edl_frames.specs.declared.reasons.Why.TheVariants as W
use Rattle.coord.specs.Soundness.{IsCalm}
use Rattle.edl_law.proofs.ListedRates.{passes}
use Rattle.edl_law.specs.Premises.{AreListed}
use Rattle.edl_law.proofs.SideLooks.{job}
use Rattle.edl_law.proofs.ReasonFacts.{AreFree, all_fail, none_first}
use Rattle.edl_law.proofs.ChannelEvents.{channels_hold, per_channel}
use Rattle.edl_law.proofs.EventsAccepted.{own_channel, Known, sides_hold, ChannelsHold, all_hold, all_apart, event_is, event_fits, event_even, all_carried_here, in_day}
use Rattle.tick_time.proofs.BoolLemmas.{both}

-- ---- the record frames of an event are of the day

none_back : (ps qs : List (Bool × Why)) → first_that (ps ++ qs) ≡ None → first_that qs ≡ None
none_back [] qs e = e
none_back (p ∷ ps) qs e = none_back ps qs (none_first p (ps ++ qs) e).1

record_free : (j : Job) (c : Channel) (s : Seat) → reason_of j c s ≡ None
    → is_past_record j (event_of j c s) ≡ false
record_free j c s e = by (overlap_of s.item) e
  where
    by : (o : Option Overlap) → ◌≡◌ {A = Option Why}
        (first_that (elim o [ None ↦ item_tests j c s | Some o ↦ transition_tests j c s o ])) None
        → is_past_record j (event_of j c s) ≡ false
    by None f =
        let a = none_first (not (is_item s.item), W.Nested)
        ((not (is_on_frame j s.start && is_on_frame j (s.start +ℤ length_in s.item)), W.OffFrame)
        ∷ (shown_tests j s (clip_in s.item) ++
        ((is_past_record j (event_of j c s), W.RecordDay) ∷ []))) f in
        let b =
        none_first (
          not (is_on_frame j s.start && is_on_frame j (s.start +ℤ length_in s.item)),
          W.OffFrame,
        ) (shown_tests j s (clip_in s.item) ++
        ((is_past_record j (event_of j c s), W.RecordDay) ∷ [])) a.1 in
        (none_first (is_past_record j (event_of j c s), W.RecordDay) []
        (none_back (shown_tests j s (clip_in s.item))
        ((is_past_record j (event_of j c s), W.RecordDay) ∷ []) b.1)).0
    by (Some o) f = (all_fail (transition_tests j c s o) f).1.1.1.0

abbrev InDay : Job → Event → Type 0
InDay j e = (is_in_day j e.rec_in && is_in_day j e.rec_out) ≡ true

all_in_day : (j : Job) (c : Channel) (u : ℤ) (past : Past) (l : List (ItemOf Listed))
    → AreFree j c u past l → All (InDay j) (filter_map (event_of j c) (seats u past l))
all_in_day j c u past [] f = λ k d l. absurd (omega (arith, l))
all_in_day j c u past (x ∷ l) f =
    by (event_of j c (record { item = x; start = u; past = past; next = l }))
    (record_free j c (record { item = x; start = u; past = past; next = l }) f.0)
    (all_in_day j c (u +ℤ length_in x) (past_by (overlap_of x) x u past) l f.1)
  where
    by : (o : Option Event) → is_past_record j o ≡ false
        → All (InDay j)
        (filter_map (event_of j c) (seats (u +ℤ length_in x) (past_by (overlap_of x) x u past) l))
        → All (InDay j)
        (cons_option o
        (filter_map (event_of j c) (seats (u +ℤ length_in x) (past_by (overlap_of x) x u past)
        l)))
    by None e a = a
    by (Some v) e a = All-cons (InDay j) v
        (filter_map (event_of j c) (seats (u +ℤ length_in x) (past_by (overlap_of x) x u past) l))
        (passes (is_in_day j v.rec_in && is_in_day j v.rec_out) e) a

numbered_day : (j : Job) (es : List Event) → All (InDay j) (map unnumbered es) → All (InDay j) es
numbered_day j [] a = λ k d l. absurd (omega (arith, l))
numbered_day j (e ∷ es) a = All-cons (InDay j) e es
    (All-head (InDay j) (unnumbered e) (map unnumbered es) a)
    (numbered_day j es (All-tail (InDay j) (unnumbered e) (map unnumbered es) a))

-- what holds of the events of each channel holds of all
all_channels : (P : Event → Type 0) (es : List Event)
    → ((c : Channel) → All P (filter (is_on c) es)) → All P es
all_channels P [] h = λ k d l. absurd (omega (arith, l))
all_channels P (e ∷ es) h = All-cons P e es (here (is_on e.channel e) (own_channel e) (h e.channel))
    (all_channels P es (λ c. rest c (is_on c e) (h c)))
  where
    here : (b : Bool) → b ≡ true → All P
        (cond b (e ∷ filter (is_on e.channel) es) (filter (is_on e.channel) es)) → P e
    here true f a = All-head P e (filter (is_on e.channel) es) a
    here false f a = absurd (cc f)

    rest : (c : Channel) (b : Bool) → All P (cond b (e ∷ filter (is_on c) es) (filter (is_on c) es))
        → All P (filter (is_on c) es)
    rest c true a = All-tail P e (filter (is_on c) es) a
    rest c false a = a

-- ---- the list

-- a list that is written is well formed, but for its timecode, and even, and its media list
-- carries it
pub record IsGood (list : EventList) (media : MediaRows) (wide : Bool) (day : ℕ) : Type 0 where
  pub events : All (IsEvent day) list.events
  pub reels : All (FitsEvent (layout_of wide)) list.events
  pub apart : AllPairs AreApart list.events
  pub even : IsEven list
  pub carried : IsAccepted list media

pub list_is_good : (t : Timeline) (list : EventList) (media : MediaRows) (drop wide : Bool)
    (day : ℕ)
    → IsCalm t → AreListed media → 999 < day → day_in (mode_in (frame_rate list.rate) drop) ≤ day
    → not_carried t media drop wide ≡ None → IsListOf t media drop wide list
    → IsGood list media wide day
list_is_good t list media drop wide day calm rows long h carried i =
    let q = all_hold (Known list.rate media wide day) list.events known in
    let d = all_channels (InDay (job list.rate (start_frame t) media drop wide)) list.events days in
    record {
      events = λ k x l. let v = q k x l in let y = both _ _ (d k x l) in
          event_is list.rate media wide day v.0 (slice_index_or list.events k x) v.1
          (in_day list.rate (start_frame t) media drop wide day
          (slice_index_or list.events k x).rec_in h y.0)
          (in_day list.rate (start_frame t) media drop wide day
          (slice_index_or list.events k x).rec_out h y.1);
      reels = λ k x l. let v = q k x l in
          event_fits list.rate media wide day v.0 (slice_index_or list.events k x) v.1;
      apart = all_apart (Known list.rate media wide day) list.events known;
      even = λ k x l. let v = q k x l in event_even list.rate media wide day v.0
          (slice_index_or list.events k x) v.1;
      carried = all_carried_here list.rate media wide day list.events q;
    }
  where
    known : ChannelsHold (Known list.rate media wide day) list.events
    known = channels_hold (Known list.rate media wide day) t list media drop wide
        (sides_hold list.rate (start_frame t) media drop wide day rows long h) calm carried i

    days : (c : Channel) → All (InDay (job list.rate (start_frame t) media drop wide))
        (filter (is_on c) list.events)
    days c = numbered_day (job list.rate (start_frame t) media drop wide) (on_channel c list.events)
        (subst (λ es. All (InDay (job list.rate (start_frame t) media drop wide)) es)
        (sym (i.events c))
        (per_channel t list.rate media drop wide calm carried i.rate (λ es. All (InDay (job list.rate (start_frame t) media drop wide)) es) c
        (λ k d l. absurd (omega (arith, l)))
        (λ l a f. all_in_day (job list.rate (start_frame t) media drop wide) c (pos 0) head l f)))

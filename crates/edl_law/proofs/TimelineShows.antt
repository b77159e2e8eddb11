-- The timeline of a list shows what the list shows.
use Rattle.std.proofs.Common.{◌≡◌, refl, sym, ap, ap₂, subst, ◌∙◌, ℕ, suc, zero, ◌+◌, ◌-◌, ◌*◌, ◌/◌, ◌%◌, ◌<◌, ◌≤◌, ℤ, pos, ◌+ℤ◌, ◌-ℤ◌, ◌*ℤ◌, ◌≤ℤ◌, ◌&&◌, ◌||◌, Bool, true, false, cond, List, [], ◌∷◌, map, Option, Some, None, arith}
use Rattle.std.specs.Prelude.{nat_le, codes, unsigned_abs, option_map, All, AllPairs}
use Rattle.std.specs.Option.{option_or}
use Rattle.std.specs.Str.{bytes_eq}
use Rattle.std.specs.Int.{int_div_euclid}
use Rattle.std.proofs.lemmas.Int.{ints, by_lt_z}
use Rattle.std.proofs.lemmas.List.Elements.{All-head, All-tail, All-filter}
use Rattle.std.proofs.lemmas.List.Kept.{AllPairs-filter}
use Rattle.std.proofs.lemmas.Slice.Eq.{bytes_eq-Decides}
use Rattle.tick_time.specs.declared.rates.Rate.{Rate}
use Rattle.tick_time.specs.declared.spans.Span.{Span}
use Rattle.otio_model.specs.Speeds.{combined}
use Rattle.otio_model.specs.Overlaps.{within}
use Rattle.coord.specs.Speeds.{media_at}
use Rattle.otio_model.specs.Lengths.{clip_range, range_start, or_zero}
use Rattle.tick_time.proofs.Wholes.{count-product}
use Rattle.otio_model.specs.declared.compositions.TrackOf.{TrackOf}
use Rattle.otio_model.specs.declared.compositions.ItemOf.{ItemOf}
use Rattle.otio_model.specs.declared.compositions.ItemOf.TheVariants.{Track}
use Rattle.otio_model.specs.declared.compositions.Listed.{Listed}
use Rattle.otio_model.specs.declared.timelines.Timeline.{Timeline}
use Rattle.otio_model.specs.Trees.{items_of}
use Rattle.otio_model.specs.Lengths.{Range, range_of, from_zero, sum_of, both as added_both}
use Rattle.edl_list.specs.declared.list.Channel.{Channel}
use Rattle.edl_list.specs.declared.list.Channel.TheVariants.{V, A, A2}
use Rattle.edl_list.specs.declared.list.Reel.{Reel}
use Rattle.edl_list.specs.declared.list.Reel.TheVariants.{Black, Named}
use Rattle.edl_list.specs.declared.list.Side.{Side}
use Rattle.edl_list.specs.declared.list.Cross.{Cross}
use Rattle.edl_list.specs.declared.list.Cross.TheVariants.{Cut, Dissolve, Wipe}
use Rattle.edl_list.specs.declared.list.Event.{Event}
use Rattle.edl_list.specs.declared.list.EventList.{EventList}
use Rattle.edl_list.specs.Formed.{IsEvent, IsCross, IsWellFormed}
use Rattle.edl_list.specs.Speeds.{day_of}
use Rattle.coord.specs.Looks.{Blank, Look, total, blank, list_shows, track_shows}
use Rattle.coord.specs.Keys.{frame_rate}
use Rattle.coord.specs.Sights.{View, Sight, exact, sight, sights, seen, looks, lengths_seen, shows_inside}
use Rattle.coord.specs.Programs.{instant, child_shows, clip_rate, first_clip, frame_ticks}
use Rattle.coord.proofs.SightLemmas.{sights-items, looks-items}
use Rattle.coord.specs.Images.{Empty, image, kind_of, is_digit, Wipe as IsWipe}
use Rattle.edl_frames.specs.Shown.{crossing_shows, cross_shows, event_shows, events_show, is_on, on_channel, shown}
use Rattle.media_rows.specs.Rows.{MediaRows}
use Rattle.edl_frames.specs.Conformed.{Pair, pair_of, pair_as, wipe_type, HasSpan, IsGap, IsTransition, IsItem, IsItemOf, IsReelItem, AreItems, end, gap, cut, pair, pair_with_side, channel_kind, first_record, IsTrackOf, has_events, AreTracks, none, used, unused, IsTimelineOf}
use Rattle.edl_frames.specs.Refused.{event_fault, IsAccepted}
use Rattle.edl_frames.specs.Channels.{own_key, keyed_shown, is_track_of, nth_track, channel_track, on}
use Rattle.edl_list.specs.Laws.{RunsOn}
use Rattle.edl_list.proofs.ChannelLemmas.{runs_on}
use Rattle.edl_frames.proofs.ChannelEvents.{all_on, BeginsFrom, channel_begins, tail_pairs}
use Rattle.edl_law.proofs.FrameQuotients.{sum-times}
use Rattle.edl_law.proofs.ListedRates.{HasNoFault, to_listed, from_listed, all_accepted}
use Rattle.coord.proofs.LookSteps.{is_within, missed_before, missed_behind}
use Rattle.edl_law.proofs.LookSteps.{times_le, times_lt}
use Rattle.edl_law.proofs.ItemLooks.{ticks, ticks_some, item_plays, gap_plays, transition_crosses}
use Rattle.edl_law.proofs.TrackShows.{IsPairIn, IsFrom, AreFrom, events_before, head_leaves, track_plays, from_in}

-- ---- the type of a wipe tells its code

digit : (n : ℕ) → n < 10 → is_digit (n + 48) ≡ true
digit n h =
    let a : nat_le 48 (n + 48) ≡ true = grind arith in
    let b : nat_le (n + 48) 57 ≡ true = grind (arith, h) in ap₂ (λ x y. x && y) a b

pub wipe_kind : (code : ℕ) → code ≤ 999 → kind_of (wipe_type code) ≡ IsWipe code
wipe_kind code h =
    let a = digit ((code / 100) % 10) (omega arith) in
    let b = digit ((code / 10) % 10) (omega arith) in
    let c = digit (code % 10) (omega arith) in
    let e : (100 * ((((code / 100) % 10) + 48) - 48)) +
    ((10 * ((((code / 10) % 10) + 48) - 48)) + (((code % 10) + 48) - 48)) ≡ code =
    omega (arith, h) in
    rw (a, b, c) (ap IsWipe e)

-- ---- events of a well formed list, channel by channel

pair_in : (rate : Rate) (media : MediaRows) (day : ℕ) (e : Event) (p : Pair) → IsEvent day e
    → event_fault rate media e ≡ None → pair_of e.cross ≡ Some p → IsPairIn rate media e p
pair_in rate media day e p i h f = by e.cross refl i.cross f
  where
    made : (c : Cross) (q : Pair) → e.cross ≡ c → q ≡ p → (e.rec_in +ℤ pos q.frames) ≤ℤ e.rec_out
        → ((k : ℤ) → cross_shows rate media c e.to k ≡ crossing_shows rate media (kind_of q.type)
        q.frames q.from e.to k) → IsPairIn rate media e p
    made c q g same inside shows = record {
      inside = subst (λ (z : Pair). (e.rec_in +ℤ pos z.frames) ≤ℤ e.rec_out) same inside;
      from = from_listed rate media e p h f;
      shows = λ k. ap (λ z. cross_shows rate media z e.to k) g ∙ shows k
          ∙ ap (λ (z : Pair). crossing_shows rate media (kind_of z.type) z.frames z.from e.to k)
          same;
    }

    by : (c : Cross) → e.cross ≡ c → IsCross day e.rec_in e.rec_out c → pair_of c ≡ Some p
        → IsPairIn rate media e p
    by Cut g j k = absurd (cc k)
    by (Dissolve n from) g j k = made (Dissolve n from) (pair_as (codes "SMPTE_Dissolve") n from) g
        (cc k) j.0.inside (λ m. refl)
    by (Wipe code n from) g j k = made (Wipe code n from) (pair_as (wipe_type code) n from) g
        (cc k) j.1.inside
        (λ m. ap (λ z. crossing_shows rate media z n from e.to m) (sym (wipe_kind code j.0)))

event_from : (rate : Rate) (media : MediaRows) (day : ℕ) (at : ℤ) (e : Event)
    → at ≤ℤ e.rec_in → IsEvent day e → HasNoFault rate media e → IsFrom rate media at e
event_from rate media day at e b i f = record {
  begins = b;
  some = i.some;
  to = to_listed rate media e f;
  pair = λ p g. pair_in rate media day e p i f g;
}

from_pairs : (rate : Rate) (media : MediaRows) (day : ℕ) (c : Channel) (es : List Event) (at : ℤ)
    → BeginsFrom at es → All (IsEvent day) es → All (HasNoFault rate media) es
    → All (λ (e : Event). e.channel ≡ c) es → AllPairs RunsOn es → AreFrom rate media at es
from_pairs rate media day c [] at b i f o r = tt
from_pairs rate media day c (e ∷ []) at b i f o r =
    let here = All-head (IsEvent day) e [] i in
    (event_from rate media day at e b here (All-head (HasNoFault rate media) e [] f), tt)
from_pairs rate media day c (e ∷ e' ∷ es) at b i f o r =
    let here = All-head (IsEvent day) e (e' ∷ es) i in
    let others = All-tail (λ (e : Event). e.channel ≡ c) e (e' ∷ es) o in
    let same : e.channel ≡ e'.channel =
    All-head (λ (e : Event). e.channel ≡ c) e (e' ∷ es) o
    ∙ sym (All-head (λ (e : Event). e.channel ≡ c) e' es others) in (
      event_from rate media day at e b here (All-head (HasNoFault rate media) e (e' ∷ es) f),
      from_pairs rate media day c (e' ∷ es) e.rec_out
          (r 0 1 e (omega arith) (omega arith) same)
          (All-tail (IsEvent day) e (e' ∷ es) i)
          (All-tail (HasNoFault rate media) e (e' ∷ es) f) others
          (tail_pairs RunsOn e (e' ∷ es) r),
    )

pub channel_from : (list : EventList) (media : MediaRows) (c : Channel) → IsWellFormed list
    → IsAccepted list media
    → AreFrom list.rate media (first_record list.events) (on_channel c list.events)
channel_from list media c w k =
    from_pairs list.rate media (day_of list.rate) c (on_channel c list.events)
    (first_record list.events) (channel_begins c list.events)
    (All-filter (is_on c) (IsEvent (day_of list.rate)) list.events w.events)
    (All-filter (is_on c) (HasNoFault list.rate media) list.events
    (all_accepted list.rate media list.events k))
    (all_on c list.events) (AllPairs-filter RunsOn (is_on c) list.events (runs_on list w))

-- ---- how long a track is

-- the record frame behind the last of the events
abbrev ends_at : ℤ → List Event → ℤ
ends_at at [] = at
ends_at at (e ∷ es) = ends_at e.rec_out es

ends_late : (rate : Rate) (media : MediaRows) (at : ℤ) (es : List Event) → AreFrom rate media at es
    → at ≤ℤ ends_at at es
ends_late rate media at [] g = omega (arith, ints)
ends_late rate media at (e ∷ es) g =
    let l = ends_late rate media e.rec_out es g.1 in
    let s = g.0.some in let b = g.0.begins in omega (arith, ints, l, s, b)

events_behind : (rate : Rate) (media : MediaRows) (at : ℤ) (es : List Event) (m : ℤ)
    → AreFrom rate media at es → ends_at at es ≤ℤ m → events_show rate media es m ≡ Empty
events_behind rate media at [] m g h = refl
events_behind rate media at (e ∷ es) m g h =
    let l = ends_late rate media e.rec_out es g.1 in
    ap (λ t. cond t (event_shows rate media e (m -ℤ e.rec_in)) (events_show rate media es m))
    (missed_behind e.rec_in e.rec_out m (omega (arith, ints, l, h)))
    ∙ events_behind rate media e.rec_out es m g.1 h

longer : (rate : Rate) (a b c : ℤ) (x : Look) (l : List Look) → x.length ≡ a *ℤ pos (ticks rate)
    → total l ≡ b *ℤ pos (ticks rate) → c ≡ a +ℤ b → total (x ∷ l) ≡ c *ℤ pos (ticks rate)
longer rate a b c x l e f g =
    let s = sum-times a b (ticks rate) in
    let h = ap (λ z. z *ℤ pos (ticks rate)) g in omega (arith, ints, e, f, s, h)

pub total_is : (rate : Rate) (media : MediaRows) (kind : List ℕ) (before : Option Event) (at : ℤ)
    (es : List Event) (items : List (ItemOf Listed)) → AreItems rate media before at es items
    → AreFrom rate media at es
    → total (looks (exact kind) items) ≡ (ends_at at es -ℤ at) *ℤ pos (ticks rate)
total_is rate media kind before at es items (end _ _) g =
    let z : at -ℤ at ≡ pos 0 = omega (arith, ints) in let h = ap (λ n. n *ℤ pos (ticks rate)) z in
    let i : pos 0 *ℤ pos (ticks rate) ≡ pos 0 = omega (arith, ints) in sym i ∙ sym h
total_is rate media kind before at es items (gap _ _ e rest x others later is_gap more) g =
    longer rate (e.rec_in -ℤ at) (ends_at e.rec_out rest -ℤ e.rec_in) (ends_at e.rec_out rest -ℤ at)
    (seen (exact kind) (sight x)) (looks (exact kind) others)
    (gap_plays rate (e.rec_in -ℤ at) kind x is_gap).long
    (total_is rate media kind before e.rec_in (e ∷ rest) others more
    (from_in rate media at e rest g)) (omega (arith, ints))
total_is rate media kind before at es items (cut _ _ e rest x others here is_cut item more) g =
    longer rate (e.rec_out -ℤ e.rec_in) (ends_at e.rec_out rest -ℤ e.rec_out)
    (ends_at e.rec_out rest -ℤ at) (seen (exact kind) (sight x)) (looks (exact kind) others)
    (item_plays rate media e.to (e.rec_out -ℤ e.rec_in) kind x g.0.to item).long
    (total_is rate media kind (Some e) e.rec_out rest others more g.1) (omega (arith, ints))
total_is rate media kind before at es items
    (pair _ _ e rest p t x others here is_pair served transition item more) g =
    let point = (transition_crosses rate p.type p.frames kind t transition).point in
    let more_is = longer rate (e.rec_out -ℤ e.rec_in) (ends_at e.rec_out rest -ℤ e.rec_out)
    (ends_at e.rec_out rest -ℤ at) (seen (exact kind) (sight x)) (looks (exact kind) others)
    (item_plays rate media e.to (e.rec_out -ℤ e.rec_in) kind x g.0.to item).long
    (total_is rate media kind (Some e) e.rec_out rest others more g.1) (omega (arith, ints)) in
    omega (arith, ints, point, more_is)
total_is rate media kind before at es items
    (pair_with_side _ _ e rest p s t x others here is_pair served side transition item more) g =
    let point = (transition_crosses rate p.type p.frames kind t transition).point in
    let none = (item_plays rate media p.from (pos 0) kind s (g.0.pair p is_pair).from side).long in
    let more_is = longer rate (e.rec_out -ℤ e.rec_in) (ends_at e.rec_out rest -ℤ e.rec_out)
    (ends_at e.rec_out rest -ℤ at) (seen (exact kind) (sight x)) (looks (exact kind) others)
    (item_plays rate media e.to (e.rec_out -ℤ e.rec_in) kind x g.0.to item).long
    (total_is rate media kind (Some e) e.rec_out rest others more g.1) (omega (arith, ints)) in
    omega (arith, ints, point, none, more_is)

-- ---- the lengths of a track's items are known

abbrev AllKnown : List Sight → Type 0
AllKnown [] = Unit {0}
AllKnown (x ∷ l) = ((n : ℕ) × (x.length ≡ Some n)) × AllKnown l

abbrev KnownLength : ItemOf Listed → Type 0
KnownLength x = (n : ℕ) × ((sight x).length ≡ Some n)

span_known : (rate : Rate) (start count : ℤ) (o : Option Span) (r : Option Range)
    → HasSpan rate start count o → (n : ℕ)
    × (option_map (λ (r : Range). r.len) (option_or (option_map range_of o) r) ≡ Some n)
span_known rate start count o r h = (
  unsigned_abs h.0.len.ticks,
  ap (λ q. option_map (λ (r : Range). r.len) (option_or (option_map range_of q) r)) h.1,
)

gap_known : (rate : Rate) (count : ℤ) (x : ItemOf Listed) → IsGap rate count x → KnownLength x
gap_known rate count x i = rw i.is
    (span_known rate (pos 0) count i.gap.source_range (Some (from_zero 0)) i.source)

item_known : (rate : Rate) (media : MediaRows) (side : Side) (count : ℤ) (x : ItemOf Listed)
    → IsItem rate media side count x → KnownLength x
item_known rate media side count x i = by side.reel i
  where
    by : (r : Reel) → IsReelItem rate media side r count x → KnownLength x
    by Black j = gap_known rate count x j
    by (Named reel) j = rw j.is (span_known rate side.src_in count j.clip.source_range
        (option_map range_of (clip_range j.clip)) j.source)

transition_known : (rate : Rate) (type : List ℕ) (frames : ℕ) (x : ItemOf Listed)
    → IsTransition rate type frames x → KnownLength x
transition_known rate type frames x i = rw i.is (0, refl)

event_known : (rate : Rate) (media : MediaRows) (e : Event) (x : ItemOf Listed)
    (l : List (ItemOf Listed)) → IsItemOf rate media e x → AllKnown (map sight l)
    → AllKnown (map sight (x ∷ l))
event_known rate media e x l i k = (item_known rate media e.to (e.rec_out -ℤ e.rec_in) x i, k)

all_known : (rate : Rate) (media : MediaRows) (before : Option Event) (at : ℤ) (es : List Event)
    (items : List (ItemOf Listed)) → AreItems rate media before at es items
    → AllKnown (map sight items)
all_known rate media before at es items (end _ _) = tt
all_known rate media before at es items (gap _ _ e rest x others later is_gap more) =
    (gap_known rate (e.rec_in -ℤ at) x is_gap, all_known rate media before e.rec_in es others more)
all_known rate media before at es items (cut _ _ e rest x others here is_cut item more) =
    let others_known = all_known rate media (Some e) e.rec_out rest others more in
    event_known rate media e x others item others_known
all_known rate media before at es items
    (pair _ _ e rest p t x others here is_pair served transition item more) =
    let others_known = all_known rate media (Some e) e.rec_out rest others more in
    let crossed = transition_known rate p.type p.frames t transition in
    (crossed, event_known rate media e x others item others_known)
all_known rate media before at es items
    (pair_with_side _ _ e rest p s t x others here is_pair served side transition item more) =
    let others_known = all_known rate media (Some e) e.rec_out rest others more in
    let crossed = transition_known rate p.type p.frames t transition in
    let sided = item_known rate media p.from (pos 0) s side in
    (sided, (crossed, event_known rate media e x others item others_known))

sum_known : (v : View) (l : List Sight) → AllKnown l → (n : ℕ) × (sum_of (lengths_seen l) ≡ Some n)
    × (pos n ≡ total (map (seen v) l))
sum_known v [] k = (0, refl, refl)
sum_known v (x ∷ l) k =
    let r = sum_known v l k.1 in
    let a = ap (λ o. pos (or_zero o)) k.0.1 in (
      k.0.0 + r.0,
      ap₂ (λ p q. added_both (λ m n. m + n) p q) k.0.1 r.1,
      (let e = r.2 in omega (arith, ints, a, e)),
    )

-- ---- a track shows what its events show

real_time : (u : ℤ) → pos 0 +ℤ int_div_euclid (u *ℤ pos 1000000) (pos 1000000) ≡ u
real_time u = let e = count-product u (pos 1000000) (omega (arith, ints)) in omega (arith, ints, e)

pub inside_track : (t : TrackOf Listed) (v : View) (u : ℤ) → t.source_range ≡ None → t.effects ≡ []
    → t.enabled ≡ true → t.kind ≡ v.kind → (sight (Track t)).shows v u ≡ track_shows
    (looks v (items_of t.children)) u
inside_track t v u a b c d =
    ap₂ (λ o es. shows_inside sights (Track t) v
    (media_at (range_start (option_or (option_map range_of o) (Some (from_zero 0))))
    (combined (pos 1000000) es) u)) a b
    ∙ ap (λ m. shows_inside sights (Track t) v m) (real_time u)
    ∙ ap₂ (λ p q. cond (p && q) (track_shows (map (seen v) (sights t.children)) u) Blank) c
    ((bytes_eq-Decides t.kind v.kind).1 d)
    ∙ ap (λ l. track_shows l u) (looks-items v t.children)

long_track : (t : TrackOf Listed) (v : View) → t.source_range ≡ None
    → AllKnown (map sight (items_of t.children)) → pos (or_zero (sight (Track t)).length) ≡ total
    (looks v (items_of t.children))
long_track t v a k =
    let r = sum_known v (map sight (items_of t.children)) k in
    ap₂ (λ o l. pos (or_zero (option_map (λ (r : Range). r.len)
    (option_or (option_map range_of o) (option_map from_zero (sum_of (lengths_seen l))))))) a
    (sights-items t.children)
    ∙ ap (λ o. pos (or_zero (option_map (λ (r : Range). r.len) (option_map from_zero o)))) r.1
    ∙ r.2
    ∙ ap total (sym (ap (map (seen v)) (sights-items t.children)) ∙ looks-items v t.children)

pub track_shows_list : (rate : Rate) (media : MediaRows) (first : ℤ) (es : List Event)
    (t : TrackOf Listed) (n : ℤ) → t.source_range ≡ None → t.effects ≡ [] → t.enabled ≡ true
    → AreItems rate media None first es (items_of t.children) → AreFrom rate media first es
    → image (child_shows (λ rate. rate) (Track t) ((n -ℤ first) *ℤ pos (ticks rate))) ≡ events_show
    rate media es n
track_shows_list rate media first es t n a b c i g =
    let v = exact t.kind in
    let u = (n -ℤ first) *ℤ pos (ticks rate) in
    let l = looks v (items_of t.children) in
    let long = long_track t v a (all_known rate media None first es (items_of t.children) i) in
    let all = total_is rate media t.kind None first es (items_of t.children) i g in
    ap₂ (λ z s. image (cond (within (pos 0) z u) s Blank)) long (inside_track t v u a b c refl)
    ∙ by_lt_z n first
    (λ h. let low = times_lt n first (ticks rate) (ticks_some rate) h in
    let d = sum-times (n -ℤ first) first (ticks rate) in
    let z : (n -ℤ first) +ℤ first ≡ n = omega (arith, ints) in
    let e = ap (λ w. w *ℤ pos (ticks rate)) z in
    ap (λ s. image (cond s (track_shows l u) Blank))
    (missed_before (pos 0) (total l) u (omega (arith, ints, low, d, e)))
    ∙ sym (events_before rate media first es n g h))
    (λ h. by_lt_z n (ends_at first es)
    (λ k. let low = times_le (pos 0) (n -ℤ first) (ticks rate) (omega (arith, ints)) in
    let high = times_lt (n -ℤ first) (ends_at first es -ℤ first) (ticks rate) (ticks_some rate)
    (omega (arith, ints)) in
    let in_all = is_within (pos 0) (total l) u (omega (arith, ints, low))
    (omega (arith, ints, high, all)) in
    ap (λ s. image (cond s (cond s (list_shows l u) Blank) Blank)) in_all
    ∙ track_plays rate media t.kind None first es (items_of t.children) blank n i g
    (head_leaves rate media first) tt h)
    (λ k. let high = times_le (ends_at first es -ℤ first) (n -ℤ first) (ticks rate)
    (omega (arith, ints)) in
    ap (λ s. image (cond s (track_shows l u) Blank))
    (missed_behind (pos 0) (total l) u (omega (arith, ints, high, all)))
    ∙ sym (events_behind rate media first es n g k)))

-- ---- the whole timeline

instant_is : (list : EventList) (media : MediaRows) (t : Timeline) (n : ℤ)
    → IsTimelineOf list media t → instant t n ≡ (n -ℤ first_record list.events) *ℤ pos
    (ticks list.rate)
instant_is list media t n i =
    let s = i.start.0 in
    ap (λ o.
    (n -ℤ elim o [
      | None ↦ pos 0
      | Some start ↦ int_div_euclid start.ticks
          (pos (frame_ticks (frame_rate start.rate)))
    ])
    *ℤ pos
    (frame_ticks
    (elim o [
      | None ↦ clip_rate (first_clip t.tracks.children)
      | Some start ↦ frame_rate
          start.rate
    ]))) i.start.1
    ∙ ap₂ (λ z (r : Rate). (n -ℤ int_div_euclid z (pos (ticks r))) *ℤ pos (ticks r)) i.start.2.ticks
    i.start.2.kept
    ∙ ap (λ z. (n -ℤ z) *ℤ pos (ticks list.rate))
    (let p = ticks_some list.rate in count-product (first_record list.events)
    (pos (ticks list.rate)) (omega (arith, ints, p)))

-- the track that a channel has, or none where it has no event
pub data TrackFor (list : EventList) (media : MediaRows) (c : Channel) (o : Option (ItemOf Listed))
    : Type 0 where
  there : (x : ItemOf Listed) → IsTrackOf list media c x → o ≡ Some x → TrackFor list media c o
  absent : on_channel c list.events ≡ [] → o ≡ None → TrackFor list media c o

kinded : (list : EventList) (media : MediaRows) (c : Channel) (k : List ℕ) (x : ItemOf Listed)
    → IsTrackOf list media c x → is_track_of k x ≡ bytes_eq (channel_kind c) k
kinded list media c k x i = rw i.is (ap (λ z. bytes_eq z k) i.kind)

nth_first : (k : List ℕ) (x : ItemOf Listed) (xs : List (ItemOf Listed)) → is_track_of k x ≡ true
    → nth_track k 0 (x ∷ xs) ≡ Some x
nth_first k x xs e = rw e refl

nth_past : (k : List ℕ) (i : ℕ) (x : ItemOf Listed) (xs : List (ItemOf Listed))
    → is_track_of k x ≡ true → nth_track k (suc i) (x ∷ xs) ≡ nth_track k i xs
nth_past k i x xs e = rw e refl

nth_other : (k : List ℕ) (i : ℕ) (x : ItemOf Listed) (xs : List (ItemOf Listed))
    → is_track_of k x ≡ false → nth_track k i (x ∷ xs) ≡ nth_track k i xs
nth_other k zero x xs e = rw e refl
nth_other k (suc i) x xs e = rw e refl

nothing_on : (es : List Event) → has_events es ≡ false → es ≡ []
nothing_on [] e = refl
nothing_on (x ∷ es) e = absurd (cc e)

none_of : (p q : Bool) → (p || q) ≡ false → (p ≡ false) × (q ≡ false)
none_of true q e = absurd (cc e)
none_of false q e = (refl, e)

record Audio (list : EventList) (media : MediaRows) (xs : List (ItemOf Listed)) : Type 0 where
  a : TrackFor list media A (nth_track (codes "Audio") 0 xs)
  a2 : TrackFor list media A2 (nth_track (codes "Audio") 1 xs)
  v : nth_track (codes "Video") 0 xs ≡ None

audio : (list : EventList) (media : MediaRows) (xs : List (ItemOf Listed)) → AreTracks list media
    (A ∷ A2 ∷ []) xs → Audio list media xs
audio list media xs (used _ _ x _ h i (used _ _ y _ k j none)) = record {
  a = there x i (nth_first (codes "Audio") x (y ∷ []) (kinded list media A (codes "Audio") x i));
  a2 = there y j (nth_past (codes "Audio") 0 x (y ∷ []) (kinded list media A (codes "Audio") x i)
      ∙ nth_first (codes "Audio") y [] (kinded list media A2 (codes "Audio") y j));
  v = nth_other (codes "Video") 0 x (y ∷ []) (kinded list media A (codes "Video") x i)
      ∙ nth_other (codes "Video") 0 y [] (kinded list media A2 (codes "Video") y j);
}
audio list media xs (used _ _ x _ h i (unused _ _ _ k none)) = record {
  a = there x i (nth_first (codes "Audio") x [] (kinded list media A (codes "Audio") x i));
  a2 = absent (nothing_on (on_channel A2 list.events) k)
      (nth_past (codes "Audio") 0 x [] (kinded list media A (codes "Audio") x i));
  v = nth_other (codes "Video") 0 x [] (kinded list media A (codes "Video") x i);
}
audio list media xs (unused _ _ _ h (used _ _ y _ k j none)) =
    absurd
    (cc
    (sym k
    ∙ (none_of (has_events (on_channel A list.events)) (has_events (on_channel A2 list.events))
    h).1))
audio list media xs (unused _ _ _ h (unused _ _ _ k none)) =
    let n = none_of (has_events (on_channel A list.events)) (has_events (on_channel A2 list.events))
    h in
    record {
      a = absent (nothing_on (on_channel A list.events) n.0) refl;
      a2 =
          absent (nothing_on (on_channel A2 list.events) n.1) refl;
      v = refl;
    }

track_for : (list : EventList) (media : MediaRows) (xs : List (ItemOf Listed)) (c : Channel)
    → AreTracks list media (V ∷ A ∷ A2 ∷ []) xs → TrackFor list media c (channel_track c xs)
track_for list media xs V (used _ _ x others h i more) =
    there x i (nth_first (codes "Video") x others (kinded list media V (codes "Video") x i))
track_for list media xs V (unused _ _ _ h more) = absent (nothing_on (on_channel V list.events) h)
    (audio list media xs more).v
track_for list media xs A (used _ _ x others h i more) =
    subst (TrackFor list media A)
    (sym (nth_other (codes "Audio") 0 x others (kinded list media V (codes "Audio") x i)))
    (audio list media others more).a
track_for list media xs A (unused _ _ _ h more) = (audio list media xs more).a
track_for list media xs A2 (used _ _ x others h i more) =
    subst (TrackFor list media A2)
    (sym (nth_other (codes "Audio") 1 x others (kinded list media V (codes "Audio") x i)))
    (audio list media others more).a2
track_for list media xs A2 (unused _ _ _ h more) = (audio list media xs more).a2

-- the timeline of a list shows on each channel, at each record frame, what the list shows
pub timeline_shows_list : (list : EventList) (media : MediaRows) (t : Timeline) (c : Channel)
    (n : ℤ) → IsWellFormed list → IsAccepted list media → IsTimelineOf list media t
    → on t c n ≡ shown list media c n
timeline_shows_list list media t c n w k i = by (channel_track c (items_of t.tracks.children))
    (track_for list media (items_of t.tracks.children) c i.tracks)
  where
    by : (o : Option (ItemOf Listed)) → TrackFor list media c o → keyed_shown own_key o
        (instant t n) ≡ shown list media c n
    by o (absent empty e) = rw (e, empty) refl
    by o (there x j e) =
        ap (λ z. keyed_shown own_key z (instant t n)) e
        ∙ ap₂ (λ z u. image (child_shows (λ rate. rate) z u)) j.is (instant_is list media t n i)
        ∙ track_shows_list list.rate media (first_record list.events) (on_channel c list.events)
        j.track n j.source j.effects j.enabled j.children (channel_from list media c w k)

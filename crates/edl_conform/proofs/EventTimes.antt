-- The events of a track of whose children nothing is said begin one no earlier than another.
use Rattle.std.proofs.Common.{◌≡◌, refl, sym, ap, subst, ℕ, zero, suc, ◌/◌, ◌≤◌, ℤ, pos, negsuc, ◌+ℤ◌, ◌-ℤ◌, ◌*ℤ◌, ◌≤ℤ◌, ◌||◌, Bool, true, false, cond, List, [], ◌∷◌, All, Option, Some, None, arith, filter_map}
use Rattle.std.specs.Prelude.{int_lt}
use Rattle.std.specs.List.{cons_option}
use Rattle.std.specs.Int.{int_div_euclid}
use Rattle.std.proofs.Math.Nat.{le-div_iff_mul-le, div-mul-le_self}
use Rattle.std.proofs.lemmas.Int.{ints}
use Rattle.otio_model.specs.declared.compositions.Clip.{Clip as ClipRow}
use Rattle.otio_model.specs.declared.compositions.ItemOf.{ItemOf}
use Rattle.otio_model.specs.declared.compositions.ItemOf.TheVariants.{Clip, Gap, Transition, Stack, Track}
use Rattle.otio_model.specs.declared.compositions.Listed.{Listed}
use Rattle.std.proofs.lemmas.List.Elements.{All-nil, All-cons}
use Rattle.std.proofs.lemmas.List.Kept.{AllPairs-cons}
use Rattle.edl_list.specs.declared.list.Channel.{Channel}
use Rattle.edl_list.specs.declared.list.Side.{Side}
use Rattle.edl_list.specs.declared.list.Event.{Event}
use Rattle.coord.specs.Looks.{Overlap}
use Rattle.coord.specs.Programs.{frame_ticks}
use Rattle.coord.specs.Sights.{overlap_of}
use Rattle.edl_frames.specs.declared.reasons.Why.{Why}
use Rattle.edl_frames.specs.Jobs.{Job, record_at, ticks_of}
use Rattle.edl_frames.specs.Seats.{Lap, Past, Seat, lap_at, length_in, begin_or, end_or, past_by, seats, head, begin_of, clip_in, clip_before, is_there}
use Rattle.edl_frames.specs.ChildEvents.{event_by, black_event, item_event, tail_event, event_of, track_events}
use Rattle.edl_frames.specs.ChildReasons.{first_that, end_behind, item_tests, transition_tests, reason_of}
use Rattle.edl_frames.specs.Carried.{examine_seats, first_said}
use Rattle.edl_conform.specs.Walk.{AreRising, said_below}
use Rattle.edl_law.proofs.FittedItems.{not_lt}
use Rattle.edl_law.proofs.ListShows.{nothing_first}
use Rattle.edl_law.proofs.ReasonFacts.{all_fail, not_or}

-- ---- the frame of an instant

quotients : (a b d : ℕ) → a ≤ b → a / d ≤ b / d
quotients a b zero h = omega arith
quotients a b (suc d) h =
    (le-div_iff_mul-le {k = suc d} (omega arith)).1
    (let low = div-mul-le_self a (suc d) in omega (arith, low, h))

-- a later instant has no earlier frame
pub frames_rise : (u v : ℤ) (d : ℕ) → u ≤ℤ v
    → int_div_euclid u (pos d) ≤ℤ int_div_euclid v (pos d)
frames_rise (pos a) (pos b) d h =
    let q = quotients a b d (omega (arith, ints, h)) in omega (arith, ints, q)
frames_rise (pos a) (negsuc b) d h = absurd (omega (arith, ints, h))
frames_rise (negsuc a) (pos b) d h = omega (arith, ints)
frames_rise (negsuc a) (negsuc b) d h =
    let q = quotients b a d (omega (arith, ints, h)) in omega (arith, ints, q)

record_rises : (j : Job) (u v : ℤ) → u ≤ℤ v → record_at j u ≤ℤ record_at j v
record_rises j u v h =
    let q = frames_rise u v (frame_ticks j.rate) h in omega (arith, ints, q)

-- ---- one event

-- an event of a channel without a line, from an instant of the track on
pub record IsFrom (j : Job) (c : Channel) (u : ℤ) (e : Event) : Type 0 where
  pub channel : e.channel ≡ c
  pub line : e.line ≡ 0
  pub begins : e.rec_in ≡ record_at j u

made_from : (j : Job) (c : Channel) (past : Past) (lap : Option Lap) (to : Side) (begin end : ℤ)
    (e : Event) → Some (event_by j c past lap to begin end) ≡ Some e → IsFrom j c begin e
made_from j c past lap to begin end e h =
    let same : e ≡ event_by j c past lap to begin end = cc h in
    record {
      channel = ap (λ x. x.channel) same;
      line = ap (λ x. x.line) same;
      begins = ap (λ x. x.rec_in) same;
    }

chosen_from : (j : Job) (c : Channel) (past : Past) (lap : Option Lap) (to : Side) (begin end : ℤ)
    (b : Bool) (e : Event) → cond b (Some (event_by j c past lap to begin end)) None ≡ Some e
    → IsFrom j c begin e
chosen_from j c past lap to begin end true e h = made_from j c past lap to begin end e h
chosen_from j c past lap to begin end false e h = absurd (cc h)

black_from : (j : Job) (c : Channel) (past : Past) (lap : Option Lap) (other : ℤ) (e : Event)
    → black_event j c past lap ≡ Some e → IsFrom j c (begin_or lap other) e
black_from j c past None other e h = absurd (cc h)
black_from j c past (Some lap) other e h =
    chosen_from j c past (Some lap) _ lap.begin lap.end (is_there (clip_before past.item)) e h

item_from : (j : Job) (c : Channel) (s : Seat) (o : Option ClipRow) (e : Event)
    → item_event j c s o ≡ Some e → IsFrom j c (begin_of s) e
item_from j c s None e h = black_from j c s.past s.past.lap s.start e h
item_from j c s (Some clip) e h = chosen_from j c s.past s.past.lap _ (begin_of s) _ _ e h

-- the event of a transition stands behind all children
tail_from : (j : Job) (c : Channel) (s : Seat) (o : Overlap) (l : List (ItemOf Listed)) (e : Event)
    → tail_event j c s o l ≡ Some e
    → (l ≡ []) × IsFrom j c (begin_or (lap_at s.start o) s.start) e
tail_from j c s o [] e h = (
  refl,
  black_from j c (record s.past { lap = lap_at s.start o }) (lap_at s.start o) s.start e h,
)
tail_from j c s o (x ∷ l) e h = absurd (cc h)

-- where the event of a child begins
abbrev pub starts_at : Seat → Option Overlap → ℤ
starts_at s None = begin_of s
starts_at s (Some o) = begin_or (lap_at s.start o) s.start

abbrev event_with : Job → Channel → Seat → Option Overlap → Option Event
event_with j c s o = elim o
    [ None ↦ item_event j c s (clip_in s.item) | Some o ↦ tail_event j c s o s.next ]

from_with : (j : Job) (c : Channel) (s : Seat) (o : Option Overlap) (e : Event)
    → event_with j c s o ≡ Some e → IsFrom j c (starts_at s o) e
from_with j c s None e h = item_from j c s (clip_in s.item) e h
from_with j c s (Some o) e h = (tail_from j c s o s.next e h).1

-- ---- what stands before a child

-- an overlap between two items begins where one may, and ends before the second one does; none may
-- begin behind the child
record Standing (past : Past) (at : ℤ) (l : List (ItemOf Listed)) : Type 0 where
  low : past.low ≤ℤ at
  laps : (lap : Lap) → past.lap ≡ Some lap
      → (past.low ≤ℤ lap.begin) × (lap.begin ≤ℤ lap.end) × (lap.end ≤ℤ end_behind at l)

no_lap : (lap : Lap) {P : Type 0} → ◌≡◌ {A = Option Lap} None (Some lap) → P
no_lap lap e = absurd (cc e)

-- an item's event begins where one may, and no later than what comes behind it may
record Between (past : Past) (at behind : ℤ) : Type 0 where
  low : past.low ≤ℤ begin_or past.lap at
  high : begin_or past.lap at ≤ℤ end_or past.lap at
  end : end_or past.lap at ≤ℤ behind

between : (past : Past) (at : ℤ) (x : ItemOf Listed) (l : List (ItemOf Listed))
    → Standing past at (x ∷ l) → Between past at (at +ℤ length_in x)
between past at x l standing = by past.lap refl
  where
    by : (o : Option Lap) → past.lap ≡ o → Between past at (at +ℤ length_in x)
    by None e =
        let low = standing.low in
        record {
          low = subst (λ o. past.low ≤ℤ begin_or o at) (sym e) low;
          high = subst (λ o. begin_or o at ≤ℤ end_or o at) (sym e) (omega (arith, ints));
          end = subst (λ o. end_or o at ≤ℤ (at +ℤ length_in x)) (sym e) (omega (arith, ints));
        }
    by (Some lap) e =
        let h = standing.laps lap e in
        record {
          low = subst (λ o. past.low ≤ℤ begin_or o at) (sym e) h.0;
          high = subst (λ o. begin_or o at ≤ℤ end_or o at) (sym e) h.1;
          end = subst (λ o. end_or o at ≤ℤ (at +ℤ length_in x)) (sym e) h.2;
        }

behind_item : (past : Past) (at : ℤ) (x : ItemOf Listed) (l : List (ItemOf Listed))
    → Standing past at (x ∷ l) → Standing (past_by None x at past) (at +ℤ length_in x) l
behind_item past at x l standing = record {
  low = (between past at x l standing).end;
  laps = λ lap e. no_lap lap e;
}

-- an overlap of which nothing is said
record Fits (s : Seat) (o : Overlap) : Type 0 where
  low : s.past.low ≤ℤ (s.start -ℤ o.before)
  high : (s.start +ℤ o.after) ≤ℤ end_behind s.start s.next

fits : (j : Job) (c : Channel) (s : Seat) (o : Overlap)
    → first_that (transition_tests j c s o) ≡ None → Fits s o
fits j c s o e =
    let third = (all_fail (transition_tests j c s o) e).1.1.0 in
    let a = not_or (int_lt (s.start -ℤ o.before) s.past.low)
    (int_lt (end_behind s.start s.next) (s.start +ℤ o.after)
    || int_lt (pos 999 *ℤ ticks_of j) (o.before +ℤ o.after)) third in
    let b = not_or (int_lt (end_behind s.start s.next) (s.start +ℤ o.after))
    (int_lt (pos 999 *ℤ ticks_of j) (o.before +ℤ o.after)) a.1 in
    record {
      low = not_lt (s.start -ℤ o.before) s.past.low a.0;
      high = not_lt (end_behind s.start s.next) (s.start +ℤ o.after) b.0;
    }

positive : (z : ℤ) → int_lt (pos 0) z ≡ true → pos 0 ≤ℤ z
positive z e = grind (arith, ints)

lap_fits : (s : Seat) (o : Overlap) → Fits s o → (lap : Lap) → lap_at s.start o ≡ Some lap
    → (s.past.low ≤ℤ lap.begin) × (lap.begin ≤ℤ lap.end)
    × (lap.end ≤ℤ end_behind s.start s.next)
lap_fits s o f lap e = by (int_lt (pos 0) (o.before +ℤ o.after)) refl e
  where
    by : (b : Bool) → int_lt (pos 0) (o.before +ℤ o.after) ≡ b
        → cond b (Some (record {
          type = o.kind;
          begin = s.start -ℤ o.before;
          end = s.start +ℤ o.after;
        })) None ≡ Some lap
        → (s.past.low ≤ℤ lap.begin) × (lap.begin ≤ℤ lap.end)
        × (lap.end ≤ℤ end_behind s.start s.next)
    by false g h = absurd (cc h)
    by true g h =
        let same : lap ≡ record {
          type = o.kind;
          begin = s.start -ℤ o.before;
          end = s.start +ℤ o.after;
        } = cc h in
        let begins : lap.begin ≡ s.start -ℤ o.before = ap (λ (k : Lap). k.begin) same in
        let ends : lap.end ≡ s.start +ℤ o.after = ap (λ (k : Lap). k.end) same in
        let low = f.low in let high = f.high in
        let some = positive (o.before +ℤ o.after) g in (
          omega (arith, ints, begins, low),
          omega (arith, ints, begins, ends, some),
          subst (λ z. z ≤ℤ end_behind s.start s.next) (sym ends) high,
        )

behind_lap : (past : Past) (at : ℤ) (x : ItemOf Listed) (l : List (ItemOf Listed)) (o : Overlap)
    → Standing past at (x ∷ l)
    → Fits (record { item = x; start = at; past = past; next = l }) o
    → Standing (past_by (Some o) x at past) at l
behind_lap past at x l o standing f = record {
  low = standing.low;
  laps = lap_fits (record { item = x; start = at; past = past; next = l }) o f;
}

-- ---- the events of a track

abbrev RisesFrom : ℤ → List Event → Type 0
RisesFrom z [] = Unit {0}
RisesFrom z (e ∷ es) = (z ≤ℤ e.rec_in) × RisesFrom e.rec_in es

later_from : (y z : ℤ) (es : List Event) → y ≤ℤ z → RisesFrom z es → RisesFrom y es
later_from y z [] h r = tt
later_from y z (e ∷ es) h r = let g = r.0 in (omega (arith, ints, g, h), r.1)

-- the event of a child before others
before_all : (y z : ℤ) (o : Option Event) (es : List Event) → y ≤ℤ z
    → ((e : Event) → o ≡ Some e → (y ≤ℤ e.rec_in) × RisesFrom e.rec_in es) → RisesFrom z es
    → RisesFrom y (cons_option o es)
before_all y z None es h f r = later_from y z es h r
before_all y z (Some e) es h f r = f e refl

no_length : (x : ItemOf Listed) (o : Overlap) → overlap_of x ≡ Some o → length_in x ≡ pos 0
no_length (Clip c) o e = absurd (cc e)
no_length (Gap c) o e = absurd (cc e)
no_length (Transition t) o e = refl
no_length (Stack s) o e = absurd (cc e)
no_length (Track t) o e = absurd (cc e)

lap_low : (s : Seat) (o : Overlap) → Fits s o → s.past.low ≤ℤ s.start
    → s.past.low ≤ℤ begin_or (lap_at s.start o) s.start
lap_low s o f low = by (lap_at s.start o) refl
  where
    by : (lap : Option Lap) → lap_at s.start o ≡ lap → s.past.low ≤ℤ begin_or lap s.start
    by None e = low
    by (Some lap) e = (lap_fits s o f lap e).0

abbrev tests_with : Job → Channel → Seat → Option Overlap → List (Bool × Why)
tests_with j c s o = elim o [ None ↦ item_tests j c s | Some o ↦ transition_tests j c s o ]

-- the event of a child and those of the children behind it
child_rises : (j : Job) (c : Channel) (s : Seat) (o : Option Overlap) (es : List Event)
    → overlap_of s.item ≡ o → Standing s.past s.start (s.item ∷ s.next)
    → first_that (tests_with j c s o) ≡ None → (s.next ≡ [] → es ≡ [])
    → (Standing (past_by o s.item s.start s.past) (s.start +ℤ length_in s.item) s.next
    → RisesFrom (record_at j (past_by o s.item s.start s.past).low) es)
    → RisesFrom (record_at j s.past.low) (cons_option (event_with j c s o) es)
child_rises j c s None es is standing none last more =
    let b = between s.past s.start s.item s.next standing in
    let low = b.low in let high = b.high in
    let rest = more (behind_item s.past s.start s.item s.next standing) in
    before_all (record_at j s.past.low) (record_at j (end_or s.past.lap s.start))
    (event_with j c s None) es
    (record_rises j s.past.low (end_or s.past.lap s.start) (omega (arith, ints, low, high)))
    (λ e h.
    let begins = (from_with j c s None e h).begins in (
      subst (λ z. record_at j s.past.low ≤ℤ z) (sym begins)
          (record_rises j s.past.low (begin_of s) low),
      subst (λ z. RisesFrom z es) (sym begins)
          (later_from (record_at j (begin_of s)) (record_at j (end_or s.past.lap s.start)) es
          (record_rises j (begin_of s) (end_or s.past.lap s.start) high) rest),
    )) rest
child_rises j c s (Some o) es is standing none last more =
    let f = fits j c s o none in
    let here : s.start ≡ s.start +ℤ length_in s.item =
    let zero_long = no_length s.item o is in omega (arith, ints, zero_long) in
    let rest = more (subst (λ z. Standing (past_by (Some o) s.item s.start s.past) z s.next) here
    (behind_lap s.past s.start s.item s.next o standing f)) in
    before_all (record_at j s.past.low) (record_at j s.past.low) (event_with j c s (Some o)) es
    (omega (arith, ints))
    (λ e h.
    let t = tail_from j c s o s.next e h in
    let begins = t.1.begins in (
      subst (λ z. record_at j s.past.low ≤ℤ z) (sym begins)
          (record_rises j s.past.low (begin_or (lap_at s.start o) s.start)
          (lap_low s o f standing.low)),
      subst (RisesFrom e.rec_in) (sym (last t.0)) tt,
    )) rest

no_events : (j : Job) (c : Channel) (u : ℤ) (past : Past) (l : List (ItemOf Listed)) → l ≡ []
    → filter_map (event_of j c) (seats u past l) ≡ []
no_events j c u past l e = ap (λ l. filter_map (event_of j c) (seats u past l)) e

rises : (j : Job) (c : Channel) (k i : ℕ) (u : ℤ) (past : Past) (l : List (ItemOf Listed))
    → Standing past u l → first_said (examine_seats j c k i (seats u past l)) ≡ None
    → RisesFrom (record_at j past.low) (filter_map (event_of j c) (seats u past l))
rises j c k i u past [] standing e = tt
rises j c k i u past (x ∷ l) standing e =
    let s : Seat = record { item = x; start = u; past = past; next = l } in
    let v = u +ℤ length_in x in
    let next = past_by (overlap_of x) x u past in
    let n = nothing_first (k ∷ i ∷ [], reason_of j c s)
    (examine_seats j c k (suc i) (seats v next l)) e in
    child_rises j c s (overlap_of x) (filter_map (event_of j c) (seats v next l)) refl standing n.0
    (no_events j c v next l) (λ stands. rises j c k (suc i) v next l stands n.1)

bounded : (z : ℤ) (es : List Event) → RisesFrom z es → All (λ e. z ≤ℤ e.rec_in) es
bounded z [] r = All-nil (λ e. z ≤ℤ e.rec_in)
bounded z (e ∷ es) r =
    let h = r.0 in
    All-cons (λ e. z ≤ℤ e.rec_in) e es h
    (bounded z es (later_from z e.rec_in es h r.1))

rising : (z : ℤ) (es : List Event) → RisesFrom z es → AreRising es
rising z [] r = λ i k d low high. absurd (omega (arith, high))
rising z (e ∷ es) r =
    AllPairs-cons (λ a b. a.rec_in ≤ℤ b.rec_in) e es (bounded e.rec_in es r.1)
    (rising e.rec_in es r.1)

-- of whose children nothing is said
pub track_rises : (j : Job) (c : Channel) (k : ℕ) (items : List (ItemOf Listed))
    → said_below j c k items ≡ None → AreRising (track_events j c items)
track_rises j c k items e =
    rising (record_at j head.low) (track_events j c items)
    (rises j c k 0 (pos 0) head items
    (record { low = omega (arith, ints); laps = λ lap h. no_lap lap h }) e)

-- ---- their channel and lines

-- an event of a channel without a line
pub record IsUnlined (c : Channel) (e : Event) : Type 0 where
  pub channel : e.channel ≡ c
  pub line : e.line ≡ 0

joined : (c : Channel) (o : Option Event) (es : List Event)
    → ((e : Event) → o ≡ Some e → IsUnlined c e) → All (IsUnlined c) es
    → All (IsUnlined c) (cons_option o es)
joined c None es f all = all
joined c (Some e) es f all = All-cons (IsUnlined c) e es (f e refl) all

unlined : (j : Job) (c : Channel) (u : ℤ) (past : Past) (l : List (ItemOf Listed))
    → All (IsUnlined c) (filter_map (event_of j c) (seats u past l))
unlined j c u past [] = All-nil (IsUnlined c)
unlined j c u past (x ∷ l) =
    let s : Seat = record { item = x; start = u; past = past; next = l } in
    joined c (event_of j c s)
    (filter_map (event_of j c)
    (seats (u +ℤ length_in x) (past_by (overlap_of x) x u past) l))
    (λ e h. let f = from_with j c s (overlap_of x) e h in record {
      channel = f.channel;
      line = f.line;
    })
    (unlined j c (u +ℤ length_in x) (past_by (overlap_of x) x u past) l)

pub track_unlined : (j : Job) (c : Channel) (items : List (ItemOf Listed))
    → All (IsUnlined c) (track_events j c items)
track_unlined j c items = unlined j c (pos 0) head items

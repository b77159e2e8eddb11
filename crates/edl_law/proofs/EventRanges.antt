-- That the events of a well formed list make times that there are, and run on channel by channel.
use Rattle.std.proofs.Common.{◌≡◌, refl, sym, ap, subst, ◌∙◌, suc, ℤ, pos, ◌-ℤ◌, ◌≤ℤ◌, List, [], ◌∷◌, Option, Some, None, get_or, inl, inr, arith}
use Rattle.std.specs.Prelude.{All, AllPairs}
use Rattle.std.specs.Int.{int_min}
use Rattle.std.proofs.lemmas.List.Elements.{All-head, All-tail, All-filter}
use Rattle.std.proofs.lemmas.List.Kept.{AllPairs-filter}
use Rattle.std.proofs.lemmas.Int.{ints, clamps}
use Rattle.tick_time.specs.declared.rates.Rate.{Rate}
use Rattle.edl_list.specs.declared.list.Channel.{Channel}
use Rattle.edl_list.specs.declared.list.Side.{Side}
use Rattle.edl_list.specs.declared.list.Cross.{Cross}
use Rattle.edl_list.specs.declared.list.Cross.TheVariants.{Cut, Dissolve, Wipe}
use Rattle.edl_list.specs.declared.list.Event.{Event}
use Rattle.edl_list.specs.declared.list.EventList.{EventList}
use Rattle.edl_list.specs.Formed.{IsFrame, IsSide, IsCross, IsEvent, AreInOrder, IsWellFormed}
use Rattle.edl_list.specs.Laws.{IsTimed, RunsOn}
use Rattle.edl_list.specs.Speeds.{count_of, day_of}
use Rattle.edl_list.proofs.ChannelLemmas.{runs_on}
use Rattle.edl_list.proofs.DayLemmas.{IsPacedDay, day_paced, timed}
use Rattle.edl_list.proofs.SpeedLemmas.{speed_small}
use Rattle.edl_frames.proofs.ChannelEvents.{BeginsFrom, all_on, channel_begins, tail_pairs}
use Rattle.edl_frames.specs.Shown.{is_on, on_channel}
use Rattle.edl_frames.specs.Conformed.{least_in, first_record}
use Rattle.edl_law.specs.Fits.{FitsSide, FitsCross, FitsEvent, FitsBefore, FitsAt, AreAhead, HasAllAhead}

-- ---- events

fits_side : (rate : Rate) (side : Side) → IsPacedDay rate → IsSide (day_of rate) side
    → FitsSide rate side
fits_side rate side p s = record {
  starts = timed rate side.src_in p s.src_in.low (omega (arith, ints, s.src_in.high));
  slow = speed_small (count_of rate) side.speed p.some s.speed;
}

fits_cross : (rate : Rate) (from to : ℤ) (cross : Cross) → IsPacedDay rate
    → IsFrame (day_of rate) from → IsFrame (day_of rate) to → IsCross (day_of rate) from to cross
    → FitsCross rate cross
fits_cross rate from to Cut p a b h = tt
fits_cross rate from to (Dissolve frames side) p a b h =
    let last : pos frames ≤ℤ pos (day_of rate) = omega (arith, ints, h.0.inside, a.low, b.high) in
    (h.0.some, timed rate (pos frames) p (omega (arith, ints)) last, fits_side rate side p h.1)
fits_cross rate from to (Wipe code frames side) p a b h =
    let last : pos frames ≤ℤ pos (day_of rate) = omega (arith, ints, h.1.inside, a.low, b.high) in (
      h.0,
      h.1.some,
      timed rate (pos frames) p (omega (arith, ints)) last,
      fits_side rate side p h.2,
    )

fits_event : (rate : Rate) (e : Event) → IsPacedDay rate → IsEvent (day_of rate) e
    → FitsEvent rate e
fits_event rate e p h =
    let a = h.rec_in.low in
    let b = h.rec_in.high in
    let c = h.rec_out.low in
    let d = h.rec_out.high in
    let some = h.some in
    record {
      timecode = p.some;
      to = fits_side rate e.to p h.to;
      from = timed rate e.rec_in p a (omega (arith, ints, b));
      behind = timed rate e.rec_out p c (omega (arith, ints, d));
      some = some;
      long = timed rate (e.rec_out -ℤ e.rec_in) p (omega (arith, ints, some))
          (omega (arith, ints, a, d));
      cross = fits_cross rate e.rec_in e.rec_out e.cross p h.rec_in h.rec_out h.cross;
    }

-- the rate of a list with an event has timecode
paced_list : (list : EventList) (e : Event) (es : List Event) → IsWellFormed list
    → list.events ≡ e ∷ es → IsPacedDay list.rate
paced_list list e es w f = elim w.timecode [
  | inl h ↦ absurd (cc (sym h ∙ f))
  | inr h ↦ day_paced list.rate h
]

pub all_fit : (list : EventList) → IsWellFormed list → All (FitsEvent list.rate) list.events
all_fit list w = by list.events refl w.events
  where
    by : (es : List Event) → list.events ≡ es → All (IsEvent (day_of list.rate)) es
        → All (FitsEvent list.rate) es
    by [] f i = λ k d l. absurd (omega (arith, l))
    by (e ∷ es) f i =
        let p = paced_list list e es w f in
        λ k d l. fits_event list.rate (get_or (e ∷ es) k d) p (i k d l)

-- ---- the least record in

least_same : (z : ℤ) (es : List Event) → All (λ (e : Event). z ≤ℤ e.rec_in) es
    → least_in z es ≡ z
least_same z [] h = refl
least_same z (e ∷ es) h =
    let low = All-head (λ (e : Event). z ≤ℤ e.rec_in) e es h in
    let m : int_min z e.rec_in ≡ z = omega (arith, ints, clamps, low) in
    ap (λ y. least_in y es) m ∙ least_same z es (All-tail (λ (e : Event). z ≤ℤ e.rec_in) e es h)

pub first_is : (e : Event) (es : List Event) → AllPairs AreInOrder (e ∷ es)
    → first_record (e ∷ es) ≡ e.rec_in
first_is e es r = least_same e.rec_in es (λ k d l.
    elim (r 0 (suc k) d (omega arith) (omega (arith, l)))
    [ inl h ↦ omega (arith, ints, h) | inr h ↦ (let g = h.0 in omega (arith, ints, g)) ])

pub zero_timed : (rate : Rate) → IsTimed rate (pos 0)
zero_timed rate = record {
  low = omega (arith, ints);
  high = omega (arith, ints);
  range = record { low = omega (arith, ints); high = omega (arith, ints) };
}

pub first_timed : (list : EventList) → IsWellFormed list
    → IsTimed list.rate (first_record list.events)
first_timed list w = by list.events refl w.events w.order
  where
    by : (es : List Event) → list.events ≡ es → All (IsEvent (day_of list.rate)) es
        → AllPairs AreInOrder es → IsTimed list.rate (first_record es)
    by [] f i r = zero_timed list.rate
    by (e ∷ es) f i r =
        let p = paced_list list e es w f in
        let h = All-head (IsEvent (day_of list.rate)) e es i in
        subst (IsTimed list.rate) (sym (first_is e es r)) (fits_event list.rate e p h).from

-- ---- the events of a channel

fits_at : (rate : Rate) (before : Option Event) (at : ℤ) (e : Event) → IsPacedDay rate
    → FitsBefore rate before → IsTimed rate at → at ≤ℤ e.rec_in → IsEvent (day_of rate) e
    → FitsAt rate before at e
fits_at rate before at e p k t b i =
    let low = t.low in
    let high = i.rec_in.high in
    record {
      known = k;
      here = t;
      later = b;
      gap = timed rate (e.rec_in -ℤ at) p (omega (arith, ints, b)) (omega (arith, ints, low, high));
      event = fits_event rate e p i;
    }

ahead_from : (rate : Rate) (c : Channel) (before : Option Event) (at : ℤ) (es : List Event)
    → IsPacedDay rate → FitsBefore rate before → IsTimed rate at → BeginsFrom at es
    → All (IsEvent (day_of rate)) es → All (λ (e : Event). e.channel ≡ c) es
    → AllPairs RunsOn es → AreAhead rate before at es
ahead_from rate c before at [] p k t b i o r = tt
ahead_from rate c before at (e ∷ []) p k t b i o r =
    (fits_at rate before at e p k t b (All-head (IsEvent (day_of rate)) e [] i), tt)
ahead_from rate c before at (e ∷ e' ∷ es) p k t b i o r =
    let here = All-head (IsEvent (day_of rate)) e (e' ∷ es) i in
    let later = All-tail (IsEvent (day_of rate)) e (e' ∷ es) i in
    let others = All-tail (λ (e : Event). e.channel ≡ c) e (e' ∷ es) o in
    let same : e.channel ≡ e'.channel =
    All-head (λ (e : Event). e.channel ≡ c) e (e' ∷ es) o
    ∙ sym (All-head (λ (e : Event). e.channel ≡ c) e' es others) in
    let f = fits_event rate e p here in
    let next = r 0 1 e (omega arith) (omega arith) same in (
      fits_at rate before at e p k t b here,
      ahead_from rate c (Some e) e.rec_out (e' ∷ es) p f f.behind next later others
          (tail_pairs RunsOn e (e' ∷ es) r),
    )

pub all_ahead : (list : EventList) → IsWellFormed list
    → HasAllAhead list (first_record list.events)
all_ahead list w = record { each = λ c. by c list.events refl }
  where
    some : (c : Channel) (e : Event) (es : List Event) → list.events ≡ e ∷ es
        → AreAhead list.rate None (first_record list.events) (on_channel c list.events)
    some c e es f =
        ahead_from list.rate c None (first_record list.events) (on_channel c list.events)
        (paced_list list e es w f) tt (first_timed list w)
        (channel_begins c list.events)
        (All-filter (is_on c) (IsEvent (day_of list.rate)) list.events w.events)
        (all_on c list.events)
        (AllPairs-filter RunsOn (is_on c) list.events (runs_on list w))

    by : (c : Channel) (es : List Event) → list.events ≡ es
        → AreAhead list.rate None (first_record list.events) (on_channel c list.events)
    by c [] f =
        subst (λ z. AreAhead list.rate None (first_record list.events) (on_channel c z)) (sym f) tt
    by c (e ∷ es) f = some c e es f

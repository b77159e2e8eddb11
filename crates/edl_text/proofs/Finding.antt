-- The first overlap on a channel.
use Rattle.std.proofs.Common.{◌≡◌, ◌⊎◌, inl, inr, ◌<◌, ◌≤◌, ℕ, ℤ, ◌<ℤ◌, ◌≤ℤ◌, List, AllPairs, Any, Contains, take, length, get_or, refl, sym, ap, subst, ◌∙◌, arith}
use Rattle.std.proofs.lemmas.Int.{ints}
use Rattle.std.proofs.lemmas.Grind.{common_steps}
use Rattle.std.specs.BTreeMap.{BTreeMap}
use Rattle.std.proofs.lemmas.Bool.{cases_order}
use Rattle.std.proofs.lemmas.List.{get_or_default, take_all}
use Rattle.edl_list.specs.declared.list.Channel.{Channel}
use Rattle.edl_list.specs.declared.list.Event.{Event}
use Rattle.edl_list.specs.Formed.{AreApart as AreApartEvents}
use Rattle.edl_text.specs.Overlaps.{Meet, IsOverlap, WasReadBefore, AreRead}
use Rattle.edl_text.specs.StateSpans.{Meets, AreApartOn, Keeps, IsOverlapOn, IsFirstOn}
use Rattle.edl_text.proofs.WholeNumbers.{below_or_not}

-- below, equal or above
order_of : (i j : ℕ) → (i < j) ⊎ ((i ≡ j) ⊎ (j < i))
order_of i j = by (cases_order i j)
  where
    by : (i ≡ j) ⊎ ((i < j) ⊎ (j < i)) → (i < j) ⊎ ((i ≡ j) ⊎ (j < i))
    by (inl h) = inr (inl h)
    by (inr (inl h)) = inl h
    by (inr (inr h)) = inr (inr h)

-- lines don't fall
line_le : (events : List Event) → AllPairs WasReadBefore events → (i j : ℕ) (d : Event) → i < j → j < length events → (get_or events i d).line ≤ (get_or events j d).line
line_le events order i j d l m = by (order i j d l m)
  where
    by : WasReadBefore (get_or events i d) (get_or events j d) → (get_or events i d).line ≤ (get_or events j d).line
    by (inl h) = omega (arith, h)
    by (inr h) = omega (arith, h.0)

apart_meet : (channel : Channel) (a b : Event) → AreApartOn channel a b → a.channel ≡ channel → Meet a b → ⊥
apart_meet channel a b apart on m = by (apart on (sym m.channel ∙ on))
  where
    by : (a.rec_out ≤ℤ b.rec_in) ⊎ (b.rec_out ≤ℤ a.rec_in) → ⊥
    by (inl h) = let s = m.second in omega (arith, ints, h, s)
    by (inr h) = let f = m.first in omega (arith, ints, h, f)

back : (a b : Event) → Meet a b → Meet b a
back a b m = record { channel = sym m.channel; first = m.second; second = m.first }

-- events of a channel that are apart have no overlap on it
pub no_overlap : (channel : Channel) (events : List Event) → AllPairs (AreApartOn channel) events → (a b : Event) → Contains events a → Contains events b → a.line < b.line → Meet a b → b.channel ≡ channel → ⊥
no_overlap channel events apart a b p q l m on = by (order_of p.0 q.0)
  where
    a_is : get_or events p.0 b ≡ a
    a_is = get_or_default events p.0 b a p.1 ∙ p.2

    b_is : get_or events q.0 a ≡ b
    b_is = get_or_default events q.0 a b q.1 ∙ q.2

    by : (p.0 < q.0) ⊎ ((p.0 ≡ q.0) ⊎ (q.0 < p.0)) → ⊥
    by (inl h) =
        let both : AreApartOn channel a b = subst (λ x. AreApartOn channel a x) b_is (subst (λ x. AreApartOn channel x (get_or events q.0 a)) p.2 (apart p.0 q.0 a h q.1)) in
        apart_meet channel a b both (m.channel ∙ on) m
    by (inr (inl h)) =
        let same : a ≡ b = sym p.2 ∙ ap (λ k. get_or events k a) h ∙ b_is in
        omega (arith, l, ap (λ e. e.line) same)
    by (inr (inr h)) =
        let both : AreApartOn channel b a = subst (λ x. AreApartOn channel b x) a_is (subst (λ x. AreApartOn channel x (get_or events p.0 b)) q.2 (apart q.0 p.0 b h p.1)) in
        apart_meet channel b a both on (back a b m)

-- an event of an earlier line stands before
stands_before : (events : List Event) → AllPairs WasReadBefore events → (i : ℕ) (event other : Event) → i < length events → get_or events i event ≡ event → (c : Contains events other) → other.line < event.line → c.0 < i
stands_before events order i event other within is c l = by (order_of c.0 i)
  where
    by : (c.0 < i) ⊎ ((c.0 ≡ i) ⊎ (i < c.0)) → c.0 < i
    by (inl h) = h
    by (inr (inl h)) =
        let same : other ≡ event = sym c.2 ∙ get_or_default events c.0 other event c.1 ∙ ap (λ k. get_or events k event) h ∙ is in
        absurd (omega (arith, l, ap (λ e. e.line) same))
    by (inr (inr h)) =
        let le : (get_or events i event).line ≤ (get_or events c.0 event).line = line_le events order i c.0 event h c.1 in
        let it : (get_or events c.0 event).line ≡ other.line = ap (λ e. e.line) (get_or_default events c.0 event other c.1 ∙ c.2) in
        let at : (get_or events i event).line ≡ event.line = ap (λ e. e.line) is in
        absurd (omega (arith, l, le, it, at))

among_front : (events : List Event) (i : ℕ) (other : Event) → i ≤ length events → (c : Contains events other) → c.0 < i → Contains (take i events) other
among_front events i other within c l = (c.0, grind (arith, common_steps), grind (arith, common_steps, c.2))

among_all : (events : List Event) (i : ℕ) (other : Event) (k : ℕ) → i ≤ length events → k < length (take i events) → get_or (take i events) k other ≡ other → (k < i) × (get_or events k other ≡ other)
among_all events i other k within l is = (grind (arith, common_steps), grind (arith, common_steps, is))

-- an event that meets a span of the events before it is of the first overlap
pub finds : (spans : BTreeMap ℤ ℤ) (channel : Channel) (events : List Event) (i : ℕ) (event : Event) → AreRead events → i < length events → get_or events i event ≡ event → event.channel ≡ channel
    → Keeps spans channel (take i events) → Meets spans event.rec_in event.rec_out → IsFirstOn channel events event.line
finds spans channel events i event read within is on k m = record { is = record { is = overlap; on = on }; least = λ other o. least other o }
  where
    seen : Any (λ e. (e.channel ≡ channel) × (e.rec_in ≡ m.start) × (e.rec_out ≡ m.end)) (take i events)
    seen = k.from m.start m.end m.has

    at : (seen.0 < i) × (get_or events seen.0 seen.1 ≡ seen.1)
    at = among_all events i seen.1 seen.0 (omega (arith, within)) seen.2 seen.3

    first : get_or events seen.0 event ≡ seen.1
    first = get_or_default events seen.0 event seen.1 (omega (arith, at.0, within)) ∙ at.1

    read_before : WasReadBefore seen.1 event
    read_before = subst (λ x. WasReadBefore seen.1 x) is (subst (λ x. WasReadBefore x (get_or events i event)) first (read.order seen.0 i event at.0 within))

    earlier : WasReadBefore seen.1 event → seen.1.line < event.line
    earlier (inl h) = h
    earlier (inr h) = absurd (h.1 (seen.4.0 ∙ sym on))

    overlap : IsOverlap events event.line
    overlap = record {
      earlier = seen.1;
      later = event;
      has_earlier = (seen.0, omega (arith, at.0, within), at.1);
      has_later = (i, within, is);
      is = refl;
      before = earlier read_before;
      meet = record {
        channel = seen.4.0 ∙ sym on;
        first = subst (λ x. x <ℤ event.rec_out) (sym seen.4.1) m.first;
        second = subst (λ x. event.rec_in <ℤ x) (sym seen.4.2) m.second;
      };
    }

    before : (other : ℕ) → IsOverlapOn channel events other → other < event.line → ⊥
    before other o l =
        let later_line : o.is.later.line < event.line = omega (arith, l, o.is.is) in
        let earlier_line : o.is.earlier.line < event.line = omega (arith, l, o.is.before) in
        let j = stands_before events read.order i event o.is.later within is o.is.has_later later_line in
        let h = stands_before events read.order i event o.is.earlier within is o.is.has_earlier earlier_line in
        no_overlap channel (take i events) k.apart o.is.earlier o.is.later (among_front events i o.is.earlier (omega (arith, within)) o.is.has_earlier h)
        (among_front events i o.is.later (omega (arith, within)) o.is.has_later j) (omega (arith, o.is.before, o.is.is)) o.is.meet o.on

    least : (other : ℕ) → IsOverlapOn channel events other → event.line ≤ other
    least other o = let no = before other o in omega (arith, no)

-- at the end no two events of the channel share a frame
pub finds_none : (spans : BTreeMap ℤ ℤ) (channel : Channel) (events : List Event) (i : ℕ) → length events ≤ i → Keeps spans channel (take i events) → AllPairs (AreApartOn channel) events
finds_none spans channel events i past k = subst (λ l. AllPairs (AreApartOn channel) l) (take_all i events past) k.apart

-- without an overlap no two events share a frame on one channel
pub all_apart : (events : List Event) → AreRead events → ((line : ℕ) → IsOverlap events line → ⊥) → AllPairs AreApartEvents events
all_apart events read none i j d l m same = by (below_or_not b.rec_in a.rec_out) (below_or_not a.rec_in b.rec_out)
  where
    a : Event
    a = get_or events i d

    b : Event
    b = get_or events j d

    line : WasReadBefore a b → a.line < b.line
    line (inl h) = h
    line (inr h) = absurd (h.1 same)

    by : (b.rec_in <ℤ a.rec_out) ⊎ (a.rec_out ≤ℤ b.rec_in) → (a.rec_in <ℤ b.rec_out) ⊎ (b.rec_out ≤ℤ a.rec_in) → (a.rec_out ≤ℤ b.rec_in) ⊎ (b.rec_out ≤ℤ a.rec_in)
    by (inr h) _ = inl h
    by (inl h) (inr g) = inr g
    by (inl h) (inl g) = absurd (none b.line (record {
      earlier = a;
      later = b;
      has_earlier = (i, omega (arith, l, m), get_or_default events i a d (omega (arith, l, m)));
      has_later = (j, m, get_or_default events j b d m);
      is = refl;
      before = line (read.order i j d l m);
      meet = record { channel = same; first = g; second = h };
    }))

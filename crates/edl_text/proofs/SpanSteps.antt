-- Spans that are kept, and one more.
use Rattle.std.proofs.Common.{◌≡◌, ◌⊎◌, inl, inr, ◌+◌, ◌<◌, ℕ, Bool, true, false, ℤ, ◌<ℤ◌, ◌≤ℤ◌, int_lt, List, [], ◌∷◌, ◌++◌, Some, None, MatchBool, IsSome, All, Any, take, length, get_or, refl, sym, ap, subst, ◌∙◌, length-append, arith}
use Rattle.std.proofs.lemmas.Int.{ints}
use Rattle.std.specs.Ordering.{int_cmp, is_eq, is_lt}
use Rattle.std.specs.declared.cmp.Ordering.{Ordering}
use Rattle.std.specs.declared.cmp.Ordering.TheVariants.{Less, Equal, Greater}
use Rattle.std.specs.declared.ops.Bound.TheVariants.{Excluded, Unbounded}
use Rattle.std.specs.BTreeMap.{BTreeMap, get, is_at, IsEmpty, Updates}
use Rattle.std.specs.Map.{lookup}
use Rattle.std.specs.BTreeMap.Range.{IsRangeOf}
use Rattle.std.proofs.lemmas.Cmp.{int_ranked}
use Rattle.std.proofs.lemmas.List.{get_or_append_left, take_more}
use Rattle.std.proofs.lemmas.List.Elements.{All-nil, All-push}
use Rattle.std.proofs.lemmas.List.Quantifiers.{Any-push, all_pairs_push}
use Rattle.edl_list.specs.declared.list.Channel.{Channel}
use Rattle.edl_list.specs.declared.list.Event.{Event}
use Rattle.edl_text.specs.Overlaps.{AreRead}
use Rattle.edl_text.specs.StateSpans.{Has, AreSpansApart, Meets, AreApartOn, Keeps}
use Rattle.edl_text.proofs.WholeNumbers.{which, below_or_not, is_below, not_below}

one_end : (spans : BTreeMap ℤ ℤ) (start a b : ℤ) → Has spans start a → Has spans start b → a ≡ b
one_end spans start a b p q = let e : Some a ≡ Some b = sym p ∙ q in cc

is_less_by : (x y : ℤ) (o : Ordering) → o ≡ int_cmp x y → o ≡ Less → x <ℤ y
is_less_by x y Less e h = int_ranked x y Less e
is_less_by x y Equal e h = cc
is_less_by x y Greater e h = cc

is_less : (x y : ℤ) → int_cmp x y ≡ Less → x <ℤ y
is_less x y h = is_less_by x y (int_cmp x y) refl h

not_less_by : (x y : ℤ) (o : Ordering) → o ≡ int_cmp x y → is_lt o ≡ false → y ≤ℤ x
not_less_by x y Less e h = cc
not_less_by x y Equal e h = let same : x ≡ y = int_ranked x y Equal e in omega (arith, ints, same)
not_less_by x y Greater e h = let above : y <ℤ x = int_ranked x y Greater e in omega (arith, ints, above)

not_less : (x y : ℤ) → is_lt (int_cmp x y) ≡ false → y ≤ℤ x
not_less x y h = not_less_by x y (int_cmp x y) refl h

less_by : (x y : ℤ) (o : Ordering) → o ≡ int_cmp x y → x <ℤ y → o ≡ Less
less_by x y Less e h = refl
less_by x y Equal e h = let same : x ≡ y = int_ranked x y Equal e in absurd (omega (arith, ints, same, h))
less_by x y Greater e h = let above : y <ℤ x = int_ranked x y Greater e in absurd (omega (arith, ints, above, h))

less : (x y : ℤ) → x <ℤ y → int_cmp x y ≡ Less
less x y h = less_by x y (int_cmp x y) refl h

is_there : (spans : BTreeMap ℤ ℤ) (start end : ℤ) → Has spans start end → IsSome (get int_cmp spans start)
is_there spans start end h = rw h refl

-- of the spans that start before an end the last one is the only one that can go past a start
last_only : (spans : BTreeMap ℤ ℤ) (from to start end : ℤ) → AreSpansApart spans → Has spans start end → ((q : ℤ) → q <ℤ to → IsSome (get int_cmp spans q) → q ≤ℤ start) → end ≤ℤ from → Meets spans from to → ⊥
last_only spans from to start end apart has last past m = by (which m.start start)
  where
    some : start <ℤ end
    some = apart.some start end has

    by : (m.start <ℤ start) ⊎ ((m.start ≡ start) ⊎ (start <ℤ m.start)) → ⊥
    by (inl h) = let before = apart.apart m.start m.end start end m.has has h in let s = m.second in omega (arith, ints, before, some, past, s)
    by (inr (inl h)) =
        let e : m.end ≡ end = one_end spans start m.end end (subst (λ x. Has spans x m.end) h m.has) has in let s = m.second in omega (arith, ints, e, past, s)
    by (inr (inr h)) = let l = last m.start m.first (is_there spans m.start m.end m.has) in omega (arith, ints, l, h)

-- what the last entry of a range says
pub last_meets : (spans : BTreeMap ℤ ℤ) (found rest : List (ℤ × ℤ)) (e : ℤ × ℤ) (from to : ℤ) → AreSpansApart spans → IsRangeOf int_cmp Unbounded (Excluded to) spans found → found ≡ rest ++ e ∷ []
    → MatchBool (int_lt from e.1) (Meets spans from to) (Meets spans from to → ⊥)
last_meets spans found rest e from to apart range is = by (int_lt from e.1) refl
  where
    start : e.0 <ℤ to
    start = is_less e.0 to (range.3 e rest is).0.1

    has : Has spans e.0 e.1
    has = (range.3 e rest is).1

    last : (q : ℤ) → q <ℤ to → IsSome (get int_cmp spans q) → q ≤ℤ e.0
    last q h s = not_less e.0 q (range.4 e rest is q (tt, less q to h) s)

    by : (t : Bool) → int_lt from e.1 ≡ t → MatchBool t (Meets spans from to) (Meets spans from to → ⊥)
    by true h = record { start = e.0; end = e.1; has = has; first = start; second = is_below from e.1 h }
    by false h = last_only spans from to e.0 e.1 apart has last (not_below from e.1 h)

-- a span that meets none where no span starts before its end
pub none_meets : (spans : BTreeMap ℤ ℤ) (found : List (ℤ × ℤ)) (from to : ℤ) → IsRangeOf int_cmp Unbounded (Excluded to) spans found → found ≡ [] → Meets spans from to → ⊥
none_meets spans found from to range is m =
    let e : Some m.end ≡ None = sym m.has ∙ range.5 is m.start (tt, less m.start to m.first) in
    cc

-- what a span more says of the spans
record Adds (spans after : BTreeMap ℤ ℤ) (from to : ℤ) : Type 0 where
  added : Has after from to
  others : (q : ℤ) → (q ≡ from → ⊥) → get int_cmp after q ≡ get int_cmp spans q

other_by : (x y : ℤ) (o : Ordering) → o ≡ int_cmp x y → (y ≡ x → ⊥) → is_eq o ≡ false
other_by x y Less e h = refl
other_by x y Equal e h = let same : x ≡ y = int_ranked x y Equal e in absurd (h (sym same))
other_by x y Greater e h = refl

adds : (spans after : BTreeMap ℤ ℤ) (from to : ℤ) → Updates int_cmp spans after from (Some to) → Adds spans after from to
adds spans after from to u = record {
  added = u.1;
  others = λ q h. u.2 q (other_by from q (int_cmp from q) refl h);
}

-- a span that meets none is before or behind each
free : (spans : BTreeMap ℤ ℤ) (from to : ℤ) → (Meets spans from to → ⊥) → (start end : ℤ) → Has spans start end → start <ℤ to → end ≤ℤ from
free spans from to none start end has first = by (below_or_not from end)
  where
    by : (from <ℤ end) ⊎ (end ≤ℤ from) → end ≤ℤ from
    by (inl h) = absurd (none (record { start = start; end = end; has = has; first = first; second = h }))
    by (inr h) = h

behind : (spans : BTreeMap ℤ ℤ) (from to : ℤ) → AreSpansApart spans → (Meets spans from to → ⊥) → (start end : ℤ) → Has spans start end → from <ℤ start → to ≤ℤ start
behind spans from to apart none start end has after = by (below_or_not start to)
  where
    by : (start <ℤ to) ⊎ (to ≤ℤ start) → to ≤ℤ start
    by (inl h) = let f = free spans from to none start end has h in let s = apart.some start end has in absurd (omega (arith, ints, f, s, after))
    by (inr h) = h

-- no span that is kept starts where the new one does
other_start : (spans : BTreeMap ℤ ℤ) (from to : ℤ) → AreSpansApart spans → (Meets spans from to → ⊥) → from <ℤ to → (start end : ℤ) → Has spans start end → start ≡ from → ⊥
other_start spans from to apart none some start end has e =
    let first : start <ℤ to = omega (arith, ints, e, some) in
    let f = free spans from to none start end has first in
    let s = apart.some start end has in
    omega (arith, ints, e, f, s)

-- the start of a span is that of the new one, or the span was kept
olds : (spans after : BTreeMap ℤ ℤ) (from to : ℤ) → Adds spans after from to → (start end : ℤ) → Has after start end → ((start ≡ from) × (end ≡ to)) ⊎ ((start ≡ from → ⊥) × Has spans start end)
olds spans after from to a start end has = by (which start from)
  where
    other : (start ≡ from → ⊥) → ((start ≡ from) × (end ≡ to)) ⊎ ((start ≡ from → ⊥) × Has spans start end)
    other h = inr (h, sym (a.others start h) ∙ has)

    by : (start <ℤ from) ⊎ ((start ≡ from) ⊎ (from <ℤ start)) → ((start ≡ from) × (end ≡ to)) ⊎ ((start ≡ from → ⊥) × Has spans start end)
    by (inl h) = other (λ e. omega (arith, ints, e, h))
    by (inr (inl h)) = inl (h, one_end after from end to (subst (λ x. Has after x end) h has) a.added)
    by (inr (inr h)) = other (λ e. omega (arith, ints, e, h))

apart_more : (spans after : BTreeMap ℤ ℤ) (from to : ℤ) → AreSpansApart spans → (Meets spans from to → ⊥) → from <ℤ to → Adds spans after from to → AreSpansApart after
apart_more spans after from to apart none some a = record { some = each; apart = pair }
  where
    each : (start end : ℤ) → Has after start end → start <ℤ end
    each start end has = by (olds spans after from to a start end has)
      where
        by : ((start ≡ from) × (end ≡ to)) ⊎ ((start ≡ from → ⊥) × Has spans start end) → start <ℤ end
        by (inl h) = omega (arith, ints, h.0, h.1, some)
        by (inr h) = apart.some start end h.1

    pair : (start end next last : ℤ) → Has after start end → Has after next last → start <ℤ next → end ≤ℤ next
    pair start end next last p q l = by (olds spans after from to a start end p) (olds spans after from to a next last q)
      where
        by : ((start ≡ from) × (end ≡ to)) ⊎ ((start ≡ from → ⊥) × Has spans start end) → ((next ≡ from) × (last ≡ to)) ⊎ ((next ≡ from → ⊥) × Has spans next last) → end ≤ℤ next
        by (inl h) (inl k) = absurd (omega (arith, ints, h.0, k.0, l))
        by (inl h) (inr k) =
            let after_it : from <ℤ next = omega (arith, ints, h.0, l) in
            let b = behind spans from to apart none next last k.1 after_it in
            omega (arith, ints, b, h.1)
        by (inr h) (inl k) =
            let before_it : start <ℤ to = omega (arith, ints, k.0, l, some) in
            let f = free spans from to none start end h.1 before_it in
            omega (arith, ints, f, k.0)
        by (inr h) (inr k) = apart.apart start end next last h.1 k.1 l

-- no event is kept by no span
pub keeps_none : (spans : BTreeMap ℤ ℤ) (channel : Channel) → IsEmpty spans → Keeps spans channel []
keeps_none spans channel empty = record {
  spans_apart = record { some = λ start end h. absurd (no start end h); apart = λ start end next last h. absurd (no start end h) };
  has = All-nil (λ event. event.channel ≡ channel → Has spans event.rec_in event.rec_out);
  from = λ start end h. absurd (no start end h);
  apart = λ i j d l m. absurd (omega (arith, m));
}
  where
    no : (start end : ℤ) → Has spans start end → ⊥
    no start end h = let e : None ≡ Some end = sym (ap (λ es. lookup (is_at (int_cmp start)) es) empty) ∙ h in cc

-- what holds of an element holds of one of a longer list
any_more : {X : Type 0} (P : X → Type 0) (xs : List X) (y : X) → Any P xs → Any P (xs ++ y ∷ [])
any_more P xs y a =
    let longer : length (xs ++ y ∷ []) ≡ length xs + 1 = length-append xs (y ∷ []) in
    (a.0, a.1, omega (arith, a.2, longer), get_or_append_left xs (y ∷ []) a.1 a.0 a.2 ∙ a.3, a.4)

-- an event of another channel changes nothing
pub keeps_other : (spans : BTreeMap ℤ ℤ) (channel : Channel) (events : List Event) (event : Event) → (event.channel ≡ channel → ⊥) → Keeps spans channel events → Keeps spans channel (events ++ event ∷ [])
keeps_other spans channel events event other k = record {
  spans_apart = k.spans_apart;
  has = All-push (λ e. e.channel ≡ channel → Has spans e.rec_in e.rec_out) events event k.has (λ h. absurd (other h));
  from = λ start end h. any_more (λ e. (e.channel ≡ channel) × (e.rec_in ≡ start) × (e.rec_out ≡ end)) events event (k.from start end h);
  apart = all_pairs_push (AreApartOn channel) events event k.apart (λ i d l a b. absurd (other b));
}

-- an event whose span meets none that is kept, kept with it
pub keeps_more : (spans after : BTreeMap ℤ ℤ) (channel : Channel) (events : List Event) (event : Event) → event.channel ≡ channel → event.rec_in <ℤ event.rec_out
    → (Meets spans event.rec_in event.rec_out → ⊥) → Updates int_cmp spans after event.rec_in (Some event.rec_out) → Keeps spans channel events → Keeps after channel (events ++ event ∷ [])
keeps_more spans after channel events event on some none u k = record {
  spans_apart = apart_more spans after event.rec_in event.rec_out k.spans_apart none some a;
  has = All-push (λ e. e.channel ≡ channel → Has after e.rec_in e.rec_out) events event still (λ _. a.added);
  from = from;
  apart = all_pairs_push (AreApartOn channel) events event k.apart pair;
}
  where
    a : Adds spans after event.rec_in event.rec_out
    a = adds spans after event.rec_in event.rec_out u

    still : All (λ e. e.channel ≡ channel → Has after e.rec_in e.rec_out) events
    still i d l h =
        let e = get_or events i d in
        let has : Has spans e.rec_in e.rec_out = k.has i d l h in
        a.others e.rec_in (other_start spans event.rec_in event.rec_out k.spans_apart none some e.rec_in e.rec_out has) ∙ has

    from : (start end : ℤ) → Has after start end → Any (λ e. (e.channel ≡ channel) × (e.rec_in ≡ start) × (e.rec_out ≡ end)) (events ++ event ∷ [])
    from start end h = by (olds spans after event.rec_in event.rec_out a start end h)
      where
        by : ((start ≡ event.rec_in) × (end ≡ event.rec_out)) ⊎ ((start ≡ event.rec_in → ⊥) × Has spans start end) → Any (λ e. (e.channel ≡ channel) × (e.rec_in ≡ start) × (e.rec_out ≡ end)) (events ++ event ∷ [])
        by (inl g) = Any-push (λ e. (e.channel ≡ channel) × (e.rec_in ≡ start) × (e.rec_out ≡ end)) events event (on, sym g.0, sym g.1)
        by (inr g) = any_more (λ e. (e.channel ≡ channel) × (e.rec_in ≡ start) × (e.rec_out ≡ end)) events event (k.from start end g.1)

    pair : (i : ℕ) (d : Event) → i < length events → AreApartOn channel (get_or events i d) event
    pair i d l g _ = by (below_or_not (get_or events i d).rec_in event.rec_out)
      where
        has : Has spans (get_or events i d).rec_in (get_or events i d).rec_out
        has = k.has i d l g

        by : ((get_or events i d).rec_in <ℤ event.rec_out) ⊎ (event.rec_out ≤ℤ (get_or events i d).rec_in)
            → ((get_or events i d).rec_out ≤ℤ event.rec_in) ⊎ (event.rec_out ≤ℤ (get_or events i d).rec_in)
        by (inl h) = inl (free spans event.rec_in event.rec_out none (get_or events i d).rec_in (get_or events i d).rec_out has h)
        by (inr h) = inr h

-- the front of a list, and one element more
pub front_more : (events : List Event) (i : ℕ) (event : Event) → i < length events → get_or events i event ≡ event → take (i + 1) events ≡ take i events ++ event ∷ []
front_more events i event within is = take_more events i event within ∙ ap (λ e. take i events ++ e ∷ []) is

pub step_other : (spans now : BTreeMap ℤ ℤ) (channel : Channel) (events : List Event) (i : ℕ) (event : Event) → i < length events → get_or events i event ≡ event → now ≡ spans → (event.channel ≡ channel → ⊥)
    → Keeps spans channel (take i events) → Keeps now channel (take (i + 1) events)
step_other spans now channel events i event within is same other k =
    subst (λ m. Keeps m channel (take (i + 1) events)) (sym same) (subst (λ l. Keeps spans channel l) (sym (front_more events i event within is)) (keeps_other spans channel (take i events) event other k))

pub step_more : (spans after now : BTreeMap ℤ ℤ) (channel : Channel) (events : List Event) (i : ℕ) (event : Event) → AreRead events → i < length events → get_or events i event ≡ event → now ≡ after → event.channel ≡ channel
    → (Meets spans event.rec_in event.rec_out → ⊥) → Updates int_cmp spans after event.rec_in (Some event.rec_out) → Keeps spans channel (take i events) → Keeps now channel (take (i + 1) events)
step_more spans after now channel events i event read within is same on none u k =
    let some : event.rec_in <ℤ event.rec_out = subst (λ e. e.rec_in <ℤ e.rec_out) is (read.some i event within) in
    subst (λ m. Keeps m channel (take (i + 1) events)) (sym same)
    (subst (λ l. Keeps after channel l) (sym (front_more events i event within is)) (keeps_more spans after channel (take i events) event on some none u k))

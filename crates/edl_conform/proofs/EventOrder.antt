-- Events that are sorted by a stable sort.
use Rattle.std.proofs.Common.{◌≡◌, refl, sym, ap, ◌∙◌, inl, inr, ◌+◌, ◌<◌, ◌≤◌, ◌≤ℤ◌, ◌<ℤ◌, Bool, true, false, cond, List, [], ◌∷◌, AllPairs, length, get_or, arith}
use Rattle.std.specs.Ordering.{int_cmp, nat_cmp, is_lt, ordering_then}
use Rattle.std.specs.declared.cmp.Ordering.{Ordering}
use Rattle.std.specs.declared.cmp.Ordering.TheVariants.{Less, Equal, Greater}
use Rattle.std.specs.List.{filter}
use Rattle.std.specs.List.Sorted.{IsSortedBy, IsStableBy, ties}
use Rattle.std.proofs.lemmas.Cmp.{ranked, int_ranked}
use Rattle.std.proofs.lemmas.Int.{ints}
use Rattle.std.proofs.lemmas.List.Kept.{IsSortedBy-filter}
use Rattle.std.proofs.lemmas.List.Elements.{filter_passes}
use Rattle.std.proofs.lemmas.List.Sorted.{sorted_far}
use Rattle.edl_list.specs.declared.list.Channel.{Channel}
use Rattle.edl_list.specs.declared.list.Event.{Event}
use Rattle.edl_list.specs.Formed.{rank, AreInOrder}
use Rattle.edl_list.proofs.RecordOrder.{stands_before, stands_before-ranks}
use Rattle.edl_frames.specs.Shown.{is_on, on_channel}
use Rattle.edl_conform.specs.Walk.{AreRising}
use Rattle.edl_conform.proofs.StableOrders.{one_order}

by_channel : (a b : Event) (o : Ordering) → o ≡ nat_cmp (rank b.channel) (rank a.channel)
    → is_lt o ≡ false → rank a.channel ≤ rank b.channel
by_channel a b Less e h = cc
by_channel a b Equal e h =
    let same : rank b.channel ≡ rank a.channel = ranked (rank b.channel) (rank a.channel) Equal e in
    omega (arith, same)
by_channel a b Greater e h =
    let above : rank a.channel < rank b.channel =
    ranked (rank b.channel) (rank a.channel) Greater e in
    omega (arith, above)

by_start : (a b : Event) (o : Ordering) → o ≡ int_cmp b.rec_in a.rec_in
    → is_lt (ordering_then o (nat_cmp (rank b.channel) (rank a.channel))) ≡ false → AreInOrder a b
by_start a b Less e h = cc
by_start a b Equal e h =
    inr (
      sym (int_ranked b.rec_in a.rec_in Equal e),
      by_channel a b (nat_cmp (rank b.channel) (rank a.channel)) refl h,
    )
by_start a b Greater e h = inl (int_ranked b.rec_in a.rec_in Greater e)

-- sorted events stand in order
pub sorted_stand : (events : List Event) → IsSortedBy stands_before events
    → AllPairs AreInOrder events
sorted_stand events sorted i j d l m =
    by_start (get_or events i d) (get_or events j d)
    (int_cmp (get_or events j d).rec_in (get_or events i d).rec_in) refl
    (sorted_far stands_before stands_before-ranks events sorted i j d (omega (arith, l)) m)

-- ---- one channel

late : (a b : Event) → a.rec_in ≤ℤ b.rec_in → rank a.channel ≡ rank b.channel
    → stands_before b a ≡ false
late a b le same = by (int_cmp b.rec_in a.rec_in) refl
  where
    level : (o : Ordering) → o ≡ nat_cmp (rank b.channel) (rank a.channel) → is_lt o ≡ false
    level Less e =
        let below : rank b.channel < rank a.channel =
        ranked (rank b.channel) (rank a.channel) Less e in
        absurd (omega (arith, below, same))
    level Equal e = refl
    level Greater e = refl

    by : (o : Ordering) → o ≡ int_cmp b.rec_in a.rec_in
        → is_lt (ordering_then o (nat_cmp (rank b.channel) (rank a.channel))) ≡ false
    by Less e =
        let below : b.rec_in <ℤ a.rec_in = int_ranked b.rec_in a.rec_in Less e in
        absurd (omega (arith, ints, below, le))
    by Equal e = level (nat_cmp (rank b.channel) (rank a.channel)) refl
    by Greater e = refl

one_rank : (c : Channel) (e : Event) → is_on c e ≡ true → rank c ≡ rank e.channel
one_rank c e h = grind (arith, h)

rising_sorted : (c : Channel) (events : List Event) → AreRising (on_channel c events)
    → IsSortedBy stands_before (on_channel c events)
rising_sorted c events rising k d low high =
    let there : k < length (on_channel c events) = omega (arith, high) in
    let a = get_or (on_channel c events) k d in
    let b = get_or (on_channel c events) (k + 1) d in
    let x = one_rank c a (filter_passes (is_on c) events k d there) in
    let y = one_rank c b (filter_passes (is_on c) events (k + 1) d high) in
    late a b (rising k (k + 1) d (omega arith) high) (sym x ∙ y)

filters : {X : Type 0} (p q : X → Bool) (xs : List X)
    → filter p (filter q xs) ≡ filter q (filter p xs)
filters p q [] = refl
filters p q (x ∷ xs) = by (p x) (q x) refl refl (filters p q xs)
  where
    by : (a b : Bool) → p x ≡ a → q x ≡ b → filter p (filter q xs) ≡ filter q (filter p xs)
        → filter p (cond (q x) (x ∷ filter q xs) (filter q xs))
        ≡ filter q (cond (p x) (x ∷ filter p xs) (filter p xs))
    by true true e f more = rw (e, f) (rw e (ap (λ l. x ∷ l) more))
    by true false e f more = rw (e, f) more
    by false true e f more = rw (e, f) (rw e more)
    by false false e f more = rw (e, f) more

-- a stable sort keeps the events of a channel on which they rise already
pub channel_stays : (c : Channel) (events sorted : List Event)
    → IsSortedBy stands_before sorted → IsStableBy stands_before events sorted
    → AreRising (on_channel c events) → on_channel c sorted ≡ on_channel c events
channel_stays c events sorted up stable rising =
    sym
    (one_order stands_before stands_before-ranks (on_channel c events) (on_channel c sorted)
    (rising_sorted c events rising)
    (IsSortedBy-filter stands_before stands_before-ranks (is_on c) sorted up)
    (λ x. filters (ties stands_before x) (is_on c) sorted ∙ ap (filter (is_on c)) (stable x)
    ∙ filters (is_on c) (ties stands_before x) events))

-- A timeline has one list.
use Rattle.std.proofs.Common.{◌≡◌, refl, sym, ap, ap₂, subst, ◌∙◌, ℕ, suc, ◌+◌, ◌==◌, Bool, true, false, cond, List, [], ◌∷◌, map, Some, inl, inr, arith}
use Rattle.std.specs.Prelude.{All, AllPairs, slice_get}
use Rattle.std.proofs.lemmas.Int.{ints}
use Rattle.std.proofs.lemmas.Bool.Decides.{Decides-eqb}
use Rattle.std.proofs.lemmas.List.Elements.{All-head, All-filter}
use Rattle.tick_time.proofs.SameValues.{same_rate}
use Rattle.otio_model.specs.declared.timelines.Timeline.{Timeline}
use Rattle.edl_list.specs.declared.list.Channel.{Channel}
use Rattle.edl_list.specs.declared.list.Event.{Event}
use Rattle.edl_list.specs.declared.list.EventList.{EventList}
use Rattle.edl_list.specs.Formed.{rank, AreInOrder}
use Rattle.coord.specs.Looks.{FrameRate}
use Rattle.edl_frames.specs.Shown.{is_on, on_channel}
use Rattle.media_rows.specs.Rows.{MediaRows}
use Rattle.edl_frames.specs.ChildEvents.{unnumbered}
use Rattle.edl_frames.specs.Carried.{IsListOf}
use Rattle.edl_frames.proofs.ChannelEvents.{tail_pairs}
use Rattle.edl_law.proofs.EventsAccepted.{own_channel}

-- but for their lines, the same events stand on each channel
abbrev AreAlike : List Event → List Event → Type 0
AreAlike a b = (c : Channel) → map unnumbered (on_channel c a) ≡ map unnumbered (on_channel c b)

head_pairs : (x : Event) (xs : List Event) → AllPairs AreInOrder (x ∷ xs) → All (AreInOrder x) xs
head_pairs x xs h = λ k d l. h 0 (suc k) d (omega arith) (omega (arith, l))

heads_same : (x y : Event) (xs ys : List Event) → (x ∷ xs) ≡ (y ∷ ys) → x ≡ y
heads_same x y xs ys e = cc e

tails_same : (x y : Event) (xs ys : List Event) → (x ∷ xs) ≡ (y ∷ ys) → xs ≡ ys
tails_same x y xs ys e = cc e

same_rank : (x y : Event) → is_on x.channel y ≡ true → rank x.channel ≡ rank y.channel
same_rank x y e = (Decides-eqb (rank x.channel) (rank y.channel)).0 e

other_rank : (x y : Event) → is_on x.channel y ≡ false → rank x.channel ≡ rank y.channel → ⊥
other_rank x y e f = cc (sym e ∙ (Decides-eqb (rank x.channel) (rank y.channel)).1 f)

-- an event comes before the first one of these, so before one that is the same but for its line
before_first : (y u : Event) (es rest : List Event) → All (AreInOrder y) es
    → map unnumbered es ≡ (u ∷ rest) → AreInOrder y u
before_first y u [] rest h e = absurd (cc e)
before_first y u (z ∷ zs) rest h e =
    subst (AreInOrder y) (heads_same (unnumbered z) u (map unnumbered zs) rest e)
    (All-head (AreInOrder y) z zs h)

-- where the first events stand on two channels, the one comes before the other
comes_before : (x y : Event) (xs ys : List Event) → AllPairs AreInOrder (y ∷ ys)
    → AreAlike (x ∷ xs) (y ∷ ys) → is_on x.channel y ≡ false → AreInOrder y x
comes_before x y xs ys q h f =
    before_first y (unnumbered x) (on_channel x.channel ys)
    (map unnumbered (on_channel x.channel xs))
    (All-filter (is_on x.channel) (AreInOrder y) ys (head_pairs y ys q))
    (sym
    (ap (λ b. map unnumbered (cond b (x ∷ on_channel x.channel xs) (on_channel x.channel xs)))
    (sym (own_channel x))
    ∙ h x.channel
    ∙ ap (λ b. map unnumbered (cond b (y ∷ on_channel x.channel ys) (on_channel x.channel ys)))
    f))

not_both : (x y : Event) → AreInOrder x y → AreInOrder y x → rank x.channel ≡ rank y.channel
not_both x y (inl p) (inl q) = absurd (omega (arith, ints, p, q))
not_both x y (inl p) (inr q) = let e = q.0 in absurd (omega (arith, ints, p, e))
not_both x y (inr p) (inl q) = let e = p.0 in absurd (omega (arith, ints, q, e))
not_both x y (inr p) (inr q) = let a = p.1 in let b = q.1 in omega (arith, a, b)

-- so the first events stand on one channel
one_channel : (x y : Event) (xs ys : List Event) → AllPairs AreInOrder (x ∷ xs)
    → AllPairs AreInOrder (y ∷ ys) → AreAlike (x ∷ xs) (y ∷ ys)
    → rank x.channel ≡ rank y.channel
one_channel x y xs ys p q h = by (is_on x.channel y) refl
  where
    back : is_on x.channel y ≡ false → (b : Bool) → is_on y.channel x ≡ b
        → rank x.channel ≡ rank y.channel
    back f true g = sym (same_rank y x g)
    back f false g = not_both x y (comes_before y x ys xs p (λ c. sym (h c)) g)
        (comes_before x y xs ys q h f)

    by : (b : Bool) → is_on x.channel y ≡ b → rank x.channel ≡ rank y.channel
    by true f = same_rank x y f
    by false f = back f (is_on y.channel x) refl

on_same : (c : Channel) (x y : Event) → rank x.channel ≡ rank y.channel → is_on c x ≡ is_on c y
on_same c x y e = ap (λ n. rank c == n) e

-- and are the same but for their lines
first_same : (x y : Event) (xs ys : List Event) → rank x.channel ≡ rank y.channel
    → AreAlike (x ∷ xs) (y ∷ ys) → unnumbered x ≡ unnumbered y
first_same x y xs ys e h =
    heads_same (unnumbered x) (unnumbered y) (map unnumbered (on_channel x.channel xs))
    (map unnumbered (on_channel x.channel ys))
    (ap (λ b. map unnumbered (cond b (x ∷ on_channel x.channel xs) (on_channel x.channel xs)))
    (sym (own_channel x))
    ∙ h x.channel
    ∙ ap (λ b. map unnumbered (cond b (y ∷ on_channel x.channel ys) (on_channel x.channel ys)))
    (sym (on_same x.channel x y e) ∙ own_channel x))

rest_alike : (x y : Event) (xs ys : List Event) → rank x.channel ≡ rank y.channel
    → AreAlike (x ∷ xs) (y ∷ ys) → AreAlike xs ys
rest_alike x y xs ys e h c = by (is_on c x) (is_on c y) (on_same c x y e) (h c)
  where
    by : (a b : Bool) → a ≡ b
        → map unnumbered (cond a (x ∷ on_channel c xs) (on_channel c xs)) ≡ map unnumbered
        (cond b (y ∷ on_channel c ys) (on_channel c ys))
        → map unnumbered (on_channel c xs) ≡ map unnumbered (on_channel c ys)
    by true true f g = tails_same (unnumbered x) (unnumbered y) (map unnumbered (on_channel c xs))
        (map unnumbered (on_channel c ys)) g
    by false false f g = g
    by true false f g = absurd (cc f)
    by false true f g = absurd (cc f)

-- events in order are determined by those of the channels
events_same : (xs ys : List Event) → AllPairs AreInOrder xs → AllPairs AreInOrder ys
    → AreAlike xs ys → map unnumbered xs ≡ map unnumbered ys
events_same [] [] p q h = refl
events_same [] (y ∷ ys) p q h = absurd
    (cc (h y.channel
    ∙ ap (λ b. map unnumbered (cond b (y ∷ on_channel y.channel ys) (on_channel y.channel ys)))
    (own_channel y)))
events_same (x ∷ xs) [] p q h = absurd
    (cc (sym (h x.channel)
    ∙ ap (λ b. map unnumbered (cond b (x ∷ on_channel x.channel xs) (on_channel x.channel xs)))
    (own_channel x)))
events_same (x ∷ xs) (y ∷ ys) p q h =
    let e = one_channel x y xs ys p q h in
    ap₂ (λ z zs. z ∷ zs) (first_same x y xs ys e h)
    (events_same xs ys (tail_pairs AreInOrder x xs p) (tail_pairs AreInOrder y ys q)
    (rest_alike x y xs ys e h))

-- the events are numbered from a number on
abbrev AreNumbered : ℕ → List Event → Type 0
AreNumbered n es = (i : ℕ) (e : Event) → slice_get es i ≡ Some e → e.line ≡ i + n

next_numbered : (n : ℕ) (x : Event) (xs : List Event) → AreNumbered n (x ∷ xs)
    → AreNumbered (n + 1) xs
next_numbered n x xs h i e there = let l = h (suc i) e there in omega (arith, l)

numbered_same : (n : ℕ) (xs ys : List Event) → AreNumbered n xs → AreNumbered n ys
    → map unnumbered xs ≡ map unnumbered ys → xs ≡ ys
numbered_same n [] [] p q e = refl
numbered_same n [] (y ∷ ys) p q e = absurd (cc e)
numbered_same n (x ∷ xs) [] p q e = absurd (cc e)
numbered_same n (x ∷ xs) (y ∷ ys) p q e =
    let first = heads_same (unnumbered x) (unnumbered y) (map unnumbered xs) (map unnumbered ys) e
    in
    let line : x.line ≡ y.line = p 0 x refl ∙ sym (q 0 y refl) in
    let same : x ≡ y = ap₂ (λ (z : Event) (l : ℕ). record z { line = l }) first line in
    ap₂ (λ (z : Event) (zs : List Event). z ∷ zs) same
    (numbered_same (n + 1) xs ys (next_numbered n x xs p) (next_numbered n y ys q)
    (tails_same (unnumbered x) (unnumbered y) (map unnumbered xs) (map unnumbered ys) e))

pub one_list : (t : Timeline) (media : MediaRows) (drop wide : Bool) (a b : EventList)
    → IsListOf t media drop wide a → IsListOf t media drop wide b → a ≡ b
one_list t media drop wide a b p q =
    let rates = p.rate ∙ sym q.rate in
    let rate = same_rate a.rate b.rate (ap (λ (r : FrameRate). r.num) rates)
    (ap (λ (r : FrameRate). r.den) rates) in
    let title = p.title ∙ sym q.title in
    let mode = p.mode ∙ sym q.mode in
    let events = numbered_same 1 a.events b.events p.numbered q.numbered
    (events_same a.events b.events p.order q.order (λ c. p.events c ∙ sym (q.events c))) in
    λ k. record { title = title k; rate = rate k; drop = mode k; events = events k }

-- Events of different lines or channels, put in order.
use Rattle.std.proofs.Common.{◌≡◌, ◌≢◌, ◌⊎◌, inl, inr, ◌<◌, ℕ, List, [], ◌∷◌, AllPairs, length, get_or, set, swap, IsPermutation, refl, sym, ap, subst, ◌∙◌, arith}
use Rattle.std.proofs.lemmas.Grind.{common_steps}
use Rattle.std.proofs.lemmas.Bool.{cases_order}
use Rattle.std.proofs.lemmas.List.{get_or_default, get_or-set_same, get_or-set_other}
use Rattle.std.proofs.lemmas.List.Sorted.{IsPermutation-keeps}
use Rattle.edl_list.specs.declared.list.Channel.{Channel}
use Rattle.edl_list.specs.declared.list.Channel.TheVariants.{V, A, A2}
use Rattle.edl_list.specs.declared.list.Event.{Event}
use Rattle.edl_list.specs.Formed.{rank}
use Rattle.edl_text.specs.Overlaps.{WasReadBefore}
use Rattle.edl_text.specs.Order.{StandsBefore, StandsNoLater}

-- no two events have one line and one channel
abbrev Differs : Event → Event → Type 0
Differs a b = a.line ≡ b.line → a.channel ≡ b.channel → ⊥

abbrev AllDiffer : List Event → Type 0
AllDiffer events = (p q : ℕ) (d : Event) → p ≢ q → p < length events → q < length events → Differs (get_or events p d) (get_or events q d)

-- where an element of a list with two exchanged stood
abbrev Source : ℕ → ℕ → ℕ → ℕ → Type 0
Source i j p m = ((p ≡ i) × (m ≡ j)) ⊎ (((p ≡ j) × (m ≡ i)) ⊎ ((p ≢ i) × (p ≢ j) × (m ≡ p)))

record Moved (l : List Event) (i j p : ℕ) : Type 0 where
  m : ℕ
  source : Source i j p m
  is : (d : Event) → get_or (swap l i j) p d ≡ get_or l m d

same_or_not : (p i : ℕ) → (p ≡ i) ⊎ (p ≢ i)
same_or_not p i = by (cases_order p i)
  where
    by : (p ≡ i) ⊎ ((p < i) ⊎ (i < p)) → (p ≡ i) ⊎ (p ≢ i)
    by (inl h) = inl h
    by (inr (inl h)) = inr (omega (arith, h))
    by (inr (inr h)) = inr (omega (arith, h))

moved : (l : List Event) (i j p : ℕ) → i < length l → j < length l → Moved l i j p
moved [] i j p a b = absurd (omega (arith, a))
moved (x ∷ xs) i j p a b = by (same_or_not p j) (same_or_not p i)
  where
    once : List Event
    once = set (x ∷ xs) i (get_or (x ∷ xs) j x)

    long : j < length once
    long = grind (arith, common_steps)

    by : (p ≡ j) ⊎ (p ≢ j) → (p ≡ i) ⊎ (p ≢ i) → Moved (x ∷ xs) i j p
    by (inl h) _ = record {
      m = i;
      source = inr (inl (h, refl));
      is = λ d. ap (λ k. get_or (swap (x ∷ xs) i j) k d) h ∙ get_or-set_same once j (get_or (x ∷ xs) i x) d long ∙ get_or_default (x ∷ xs) i x d a;
    }
    by (inr n) (inl h) = record {
      m = j;
      source = inl (h, refl);
      is = λ d. get_or-set_other once j p (get_or (x ∷ xs) i x) d n ∙ ap (λ k. get_or once k d) h ∙ get_or-set_same (x ∷ xs) i (get_or (x ∷ xs) j x) d a ∙ get_or_default (x ∷ xs) j x d b;
    }
    by (inr n) (inr k) = record {
      m = p;
      source = inr (inr (k, n, refl));
      is = λ d. get_or-set_other once j p (get_or (x ∷ xs) i x) d n ∙ get_or-set_other (x ∷ xs) i p (get_or (x ∷ xs) j x) d k;
    }

within : (n i j p m : ℕ) → i < n → j < n → p < n → Source i j p m → m < n
within n i j p m a b c (inl h) = omega (arith, b, h.1)
within n i j p m a b c (inr (inl h)) = omega (arith, a, h.1)
within n i j p m a b c (inr (inr h)) = omega (arith, c, h.2)

one_source : (i j p q m : ℕ) → Source i j p m → Source i j q m → p ≡ q
one_source i j p q m (inl h) (inl k) = omega (arith, h.0, k.0)
one_source i j p q m (inl h) (inr (inl k)) = omega (arith, h.0, h.1, k.0, k.1)
one_source i j p q m (inl h) (inr (inr k)) = absurd (omega (arith, h.1, k.1, k.2))
one_source i j p q m (inr (inl h)) (inl k) = omega (arith, h.0, h.1, k.0, k.1)
one_source i j p q m (inr (inl h)) (inr (inl k)) = omega (arith, h.0, k.0)
one_source i j p q m (inr (inl h)) (inr (inr k)) = absurd (omega (arith, h.1, k.0, k.2))
one_source i j p q m (inr (inr h)) (inl k) = absurd (omega (arith, k.1, h.1, h.2))
one_source i j p q m (inr (inr h)) (inr (inl k)) = absurd (omega (arith, k.1, h.0, h.2))
one_source i j p q m (inr (inr h)) (inr (inr k)) = omega (arith, h.2, k.2)

length_swapped : (l : List Event) (i j : ℕ) → length (swap l i j) ≡ length l
length_swapped [] i j = refl
length_swapped (x ∷ xs) i j = grind (arith, common_steps)

differ_swapped : (l : List Event) (i j : ℕ) → i < length l → j < length l → AllDiffer l → AllDiffer (swap l i j)
differ_swapped l i j a b all p q d ne within_p within_q =
    let same = length_swapped l i j in
    let s = moved l i j p a b in
    let t = moved l i j q a b in
    let ok_p = within (length l) i j p s.m a b (omega (arith, within_p, same)) s.source in
    let ok_q = within (length l) i j q t.m a b (omega (arith, within_q, same)) t.source in
    let apart : s.m ≢ t.m = λ e. ne (one_source i j p q t.m (subst (Source i j p) e s.source) t.source) in
    subst (λ x. Differs x (get_or (swap l i j) q d)) (sym (s.is d)) (subst (λ x. Differs (get_or l s.m d) x) (sym (t.is d)) (all s.m t.m d apart ok_p ok_q))

read_differ : (events : List Event) → AllPairs WasReadBefore events → AllDiffer events
read_differ events order p q d ne a b = by (cases_order p q)
  where
    one : (x y : Event) → WasReadBefore x y → Differs x y
    one x y (inl h) e c = omega (arith, h, e)
    one x y (inr h) e c = h.1 c

    by : (p ≡ q) ⊎ ((p < q) ⊎ (q < p)) → Differs (get_or events p d) (get_or events q d)
    by (inl h) = absurd (ne h)
    by (inr (inl h)) = one (get_or events p d) (get_or events q d) (order p q d h b)
    by (inr (inr h)) = λ e c. one (get_or events q d) (get_or events p d) (order q p d h a) (sym e) (sym c)

one_rank : (a b : Channel) → rank a ≡ rank b → a ≡ b
one_rank V V e = refl
one_rank V A e = absurd (omega (arith, e))
one_rank V A2 e = absurd (omega (arith, e))
one_rank A V e = absurd (omega (arith, e))
one_rank A A e = refl
one_rank A A2 e = absurd (omega (arith, e))
one_rank A2 V e = absurd (omega (arith, e))
one_rank A2 A e = absurd (omega (arith, e))
one_rank A2 A2 e = refl

stands : (a b : Event) → Differs a b → StandsNoLater a b → StandsBefore a b
stands a b differ (inl h) = inl h
stands a b differ (inr (e, inl h)) = inr (e, inl h)
stands a b differ (inr (e, inr (c, h))) =
    let other : a.line ≢ b.line = λ l. differ l (one_rank a.channel b.channel c) in
    inr (e, inr (c, omega (arith, h, other)))

-- events that were read stand strictly in order once they are sorted
pub strict : (events ordered : List Event) → AllPairs WasReadBefore events → IsPermutation events ordered → AllPairs StandsNoLater ordered → AllPairs StandsBefore ordered
strict events ordered read same order i j d l m =
    let all : AllDiffer ordered = IsPermutation-keeps events AllDiffer (read_differ events read) differ_swapped ordered same in
    stands (get_or ordered i d) (get_or ordered j d) (all i j d (omega (arith, l)) (omega (arith, l, m)) m) (order i j d l m)

-- Runs in lists: which one has a number, and what holds of each.
use Rattle.std.proofs.Common.{◌≡◌, refl, sym, subst, ℕ, zero, suc, ℤ, ◌<◌, inl, inr, ◌↔◌, List, [], ◌∷◌, length, get_or, AllPairs, arith}
use Rattle.std.specs.List.{All, Contains}
use Rattle.std.specs.List.Sorted.{IsPermutation}
use Rattle.std.proofs.lemmas.List.Sorted.{Contains-permutation, IsPermutation-sym}
use Rattle.pull_list.specs.Runs.{AreSorted, Each, Has, IsOfRun, StartsBy}
use Rattle.pull_list.specs.declared.runs.Run.{Run}

-- the run of the list that has the number
record Among (rs : List Run) (k : ℕ) (v : ℤ) : Type 0 where
  run : Run
  among : Contains rs run
  has : IsOfRun run k v

has_in : (rs : List Run) (k : ℕ) (v : ℤ) → Has rs k v → Among rs k v
has_in [] k v h = absurd h
has_in (r ∷ rs) k v (inl h) = record { run = r; among = (0, omega arith, refl); has = h }
has_in (r ∷ rs) k v (inr h) = let a = has_in rs k v h in record {
  run = a.run;
  among = (suc a.among.0, omega (arith, a.among.1), a.among.2);
  has = a.has;
}

in_has : (rs : List Run) (r : Run) (k : ℕ) (v : ℤ) (i : ℕ) → i < length rs → get_or rs i r ≡ r
    → IsOfRun r k v → Has rs k v
in_has [] r k v i lt e h = absurd (omega (arith, lt))
in_has (s ∷ rs) r k v zero lt e h = inl (subst (λ x. IsOfRun x k v) (sym e) h)
in_has (s ∷ rs) r k v (suc i) lt e h = inr (in_has rs r k v i (omega (arith, lt)) e h)

each_in : (P : Run → Type 0) (rs : List Run) (r : Run) (i : ℕ) → i < length rs → get_or rs i r ≡ r
    → Each P rs → P r
each_in P [] r i lt e h = absurd (omega (arith, lt))
each_in P (s ∷ rs) r zero lt e h = subst P e h.0
each_in P (s ∷ rs) r (suc i) lt e h = each_in P rs r i (omega (arith, lt)) e h.1

each_all : (P : Run → Type 0) (rs : List Run) → All P rs → Each P rs
each_all P [] h = tt
each_all P (r ∷ rs) h = (h 0 r (omega arith), each_all P rs (λ k d lt. h (suc k) d (omega (arith, lt))))

-- what was said of each run holds of each in another order
permuted_has : (xs ys : List Run) (k : ℕ) (v : ℤ) → IsPermutation xs ys → Has xs k v → Has ys k v
permuted_has xs ys k v p h =
    let a = has_in xs k v h in
    let c = Contains-permutation xs ys a.run p a.among in
    in_has ys a.run k v c.0 c.1 c.2 a.has

pub same_has : (xs ys : List Run) → IsPermutation xs ys
    → (k : ℕ) (v : ℤ) → Has ys k v ↔ Has xs k v
same_has xs ys p k v =
    (permuted_has ys xs k v (IsPermutation-sym xs ys p), permuted_has xs ys k v p)

each_from : (P : Run → Type 0) (rs : List Run) → ((r : Run) → Contains rs r → P r) → Each P rs
each_from P [] f = tt
each_from P (r ∷ rs) f = (
  f r (0, omega arith, refl),
  each_from P rs (λ s c. f s (suc c.0, omega (arith, c.1), c.2)),
)

pub same_each : (P : Run → Type 0) (xs ys : List Run) → IsPermutation xs ys → Each P xs → Each P ys
same_each P xs ys p h = each_from P ys (λ r c.
    let d = Contains-permutation ys xs r (IsPermutation-sym xs ys p) c in
    each_in P xs r d.0 d.1 d.2 h)

pub sorted_from : (rs : List Run) → AllPairs StartsBy rs → AreSorted rs
sorted_from [] h = tt
sorted_from (r ∷ rs) h = (
  each_all (StartsBy r) rs (λ k d lt. h 0 (suc k) d (omega arith) (omega (arith, lt))),
  sorted_from rs (λ i j d l m. h (suc i) (suc j) d (omega (arith, l)) (omega (arith, m))),
)

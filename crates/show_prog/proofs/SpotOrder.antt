-- Clips are listed in document order.
use Rattle.std.proofs.Common.{◌≡◌, ◌⊎◌, ℕ, zero, suc, ◌+◌, ◌<◌, List, [], ◌∷◌, ◌++◌, refl, sym, ap, subst, length, drop, get_or, Contains, AllPairs, ⊎_elim, inl, inr, arith}
use Rattle.std.proofs.lemmas.List.Elements.{Contains-append_cases, Contains-get_or}
use Rattle.otio_model.specs.declared.compositions.Clip.{Clip as ClipRow}
use Rattle.otio_model.specs.declared.compositions.ItemOf.{ItemOf}
use Rattle.otio_model.specs.declared.compositions.ItemOf.TheVariants.{Clip, Gap, Transition, Stack, Track}
use Rattle.otio_model.specs.declared.compositions.Listed.{Listed}
use Rattle.otio_model.specs.Trees.{items_of}
use Rattle.coord.specs.Soundness.{Precedes}
use Rattle.show_prog.specs.Spots.{Spot, from_place, below_index, spots_from, spots, spots_of}
use Rattle.show_prog.proofs.SpotLemmas.{spots_are}
use Rattle.show_prog.proofs.SpotPlaces.{at, behind, lowered, from_index, found_at}

-- one spot stands before another in a list
abbrev Before : List Spot → Spot → Spot → Type 0
Before [] s t = ⊥
Before (x ∷ xs) s t = ((x ≡ s) × Contains xs t) ⊎ Before xs s t

before : (xs : List Spot) (i j : ℕ) (d : Spot) → i < j → j < length xs → Before xs (get_or xs i d) (get_or xs j d)
before [] i j d lt within = absurd (omega (arith, within))
before (x ∷ xs) zero zero d lt within = absurd (omega (arith, lt))
before (x ∷ xs) zero (suc j) d lt within = inl (refl, Contains-get_or xs j d (omega (arith, within)))
before (x ∷ xs) (suc i) zero d lt within = absurd (omega (arith, lt))
before (x ∷ xs) (suc i) (suc j) d lt within = inr (before xs i j d (omega (arith, lt)) (omega (arith, within)))

earlier : (xs : List Spot) (s t : Spot) → Before xs s t → Contains xs s
earlier [] s t h = absurd h
earlier (x ∷ xs) s t h = ⊎_elim (λ here. (0, omega arith, here.0)) (λ rest. behind x s xs (earlier xs s t rest)) h

in_two : (xs ys : List Spot) (s t : Spot) → Before (xs ++ ys) s t → Before xs s t ⊎ (Before ys s t ⊎ (Contains xs s × Contains ys t))
in_two [] ys s t h = inr (inl h)
in_two (x ∷ xs) ys s t h = ⊎_elim
    (λ here. ⊎_elim (λ c. inl (inl (here.0, c))) (λ c. inr (inr ((0, omega arith, here.0), c))) (Contains-append_cases xs ys t here.1))
    (λ rest. ⊎_elim (λ p. inl (inr p)) (λ r. inr (⊎_elim (λ p. inl p) (λ p. inr (behind x s xs p.0, p.1)) r)) (in_two xs ys s t rest))
    h

-- the spots that two were, seen from one level down
record AreLowered (i : ℕ) (found : List Spot) (s t : Spot) : Type 0 where
  one : Spot
  other : Spot
  order : Before found one other
  one_seen : from_place (i ∷ []) one ≡ s
  other_seen : from_place (i ∷ []) other ≡ t

both_lowered : (i : ℕ) (found : List Spot) (s t : Spot) → Before (below_index i found) s t → AreLowered i found s t
both_lowered i [] s t h = absurd h
both_lowered i (x ∷ found) s t h = ⊎_elim
    (λ here. let r = lowered i found t here.1 in record { one = x; other = r.spot; order = inl (refl, r.among); one_seen = here.0; other_seen = r.seen })
    (λ rest. let r = both_lowered i found s t rest in record { one = r.one; other = r.other; order = inr r.order; one_seen = r.one_seen; other_seen = r.other_seen })
    h

-- the head of a place, and the spot one level down
head_is : (k : ℕ) (s : Spot) (i : ℕ) (place : List ℕ) (c : ClipRow) → from_place (k ∷ []) s ≡ at (i ∷ place) c → k ≡ i
head_is k s i place c e = ap (λ (r : Spot). get_or r.place 0 0) e

tail_is : (k : ℕ) (s : Spot) (i : ℕ) (place : List ℕ) (c : ClipRow) → from_place (k ∷ []) s ≡ at (i ∷ place) c → s ≡ at place c
tail_is k s i place c e = ap (λ (r : Spot). at (drop 1 r.place) r.clip) e

ordered_from : (xs : List (ItemOf Listed)) (j i : ℕ) (place : List ℕ) (c : ClipRow) (other : List ℕ) (d : ClipRow)
    → ((x : ItemOf Listed) (r : List ℕ) → Before (spots_of x) (at place c) (at r d) → Precedes place r)
    → Before (spots_from spots j xs) (at (i ∷ place) c) (at other d) → Precedes (i ∷ place) other
ordered_from [] j i place c other d again h = absurd h
ordered_from (x ∷ xs) j i place c other d again h = ⊎_elim
    (λ same.
    let r = both_lowered j (spots_of x) (at (i ∷ place) c) (at other d) same in
    let one : r.one ≡ at place c = tail_is j r.one i place c r.one_seen in
    let clip : r.other.clip ≡ d = ap (λ (s : Spot). s.clip) r.other_seen in
    let inside : Before (spots_of x) (at place c) (at r.other.place d) =
    subst (λ (s : Spot). Before (spots_of x) s (at r.other.place d)) one (subst (λ (e : ClipRow). Before (spots_of x) r.one (at r.other.place e)) clip r.order) in
    subst (Precedes (i ∷ place)) (ap (λ (s : Spot). s.place) r.other_seen) (inr (sym (head_is j r.one i place c r.one_seen), again x r.other.place inside)))
    (λ later. ⊎_elim
    (λ rest. ordered_from xs (j + 1) i place c other d again rest)
    (λ apart.
    let r = lowered j (spots_of x) (at (i ∷ place) c) apart.0 in
    let k = head_is j r.spot i place c r.seen in
    let b = from_index xs (j + 1) (at other d) apart.1 in
    let less : i < (j + 1) + b.index = omega (arith, k) in
    subst (Precedes (i ∷ place)) (ap (λ (s : Spot). s.place) b.seen) (inl less))
    later)
    (in_two (below_index j (spots_of x)) (spots_from spots (j + 1) xs) (at (i ∷ place) c) (at other d) h)

ordered_of : (place : List ℕ) (x : ItemOf Listed) (c : ClipRow) (other : List ℕ) (d : ClipRow)
    → ((l : Listed) → Before (spots l) (at place c) (at other d) → Precedes place other)
    → Before (spots_of x) (at place c) (at other d) → Precedes place other
ordered_of place (Clip e) c other d again h = ⊎_elim (λ here. absurd (omega (arith, here.1.1))) (λ none. absurd none) h
ordered_of place (Gap g) c other d again h = absurd h
ordered_of place (Transition t) c other d again h = absurd h
ordered_of place (Stack s) c other d again h = again s.children h
ordered_of place (Track t) c other d again h = again t.children h

ordered_at : (place : List ℕ) (l : Listed) (c : ClipRow) (other : List ℕ) (d : ClipRow) → Before (spots l) (at place c) (at other d) → Precedes place other
ordered_at [] l c other d h = let none = found_at [] l c (earlier (spots l) (at [] c) (at other d) h) in absurd (cc none)
ordered_at (i ∷ place) l c other d h =
    ordered_from (items_of l) 0 i place c other d (λ x r. ordered_of place x c r d (λ k. ordered_at place k c r d))
    (subst (λ (found : List Spot). Before found (at (i ∷ place) c) (at other d)) (sym (spots_are l)) h)

pub spots_ordered : (l : Listed) → AllPairs (λ (s t : Spot). Precedes s.place t.place) (spots l)
spots_ordered l = λ i j d lt within.
    let s = get_or (spots l) i d in
    let t = get_or (spots l) j d in
    ordered_at s.place l s.clip t.place t.clip (before (spots l) i j d lt within)

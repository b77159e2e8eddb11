-- Places of root children and of their children.
use mathlib.Core.Path.{Path}
use Rattle.std.proofs.Common.{◌≡◌, ap, ℕ, suc, ◌≤◌, List, [], ◌∷◌, length, arith}
use Rattle.std.specs.Prelude.{slice_index_or}
use Rattle.coord.specs.Soundness.{Precedes}
use Rattle.flat_stack.specs.Spots.{StartsBelow}

pub next_is : (k j i n : ℕ) (p q : List ℕ) → k ∷ i ∷ p ≡ j ∷ n ∷ q → i ≡ n
next_is k j i n p q e = ap (λ l. slice_index_or l 1 0) e

pub one_two : (k j i : ℕ) → Path (List ℕ) (k ∷ []) (j ∷ i ∷ []) → ⊥
one_two k j i e = let g : 1 ≡ 2 = ap length e in omega (arith, g)

pub two_one : (k j i : ℕ) (p : List ℕ) → Path (List ℕ) (k ∷ i ∷ p) (j ∷ []) → ⊥
two_one k j i p e = let g : suc (suc (length p)) ≡ 1 = ap length e in omega (arith, g)

pub none_one : (k : ℕ) (p : List ℕ) → Path (List ℕ) [] (k ∷ p) → ⊥
none_one k p e = let g : 0 ≡ suc (length p) = ap length e in omega (arith, g)

pub none_before : (p : List ℕ) → Precedes p [] → ⊥
none_before [] h = h
none_before (i ∷ p) h = h

pub starts_later : (n m : ℕ) (place : List ℕ) → n ≤ m → StartsBelow n place → StartsBelow m place
starts_later n m [] h s = tt
starts_later n m (i ∷ place) h s = omega (arith, h, s)

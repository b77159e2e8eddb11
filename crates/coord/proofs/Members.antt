-- Members of a list from an index on, and how many items children have.
use Rattle.std.proofs.Common.{◌≡◌, ℕ, zero, suc, ◌+◌, ◌<◌, ◌≤◌, ◌^◌, List, [], ◌∷◌, Some, refl, ap, length, drop, slice_get, add-one, arith}
-- what stands in two equal ones is the same
pub use Rattle.std.proofs.lemmas.Option.{same_Some as same_some}
use Rattle.otio_model.specs.declared.compositions.ItemOf.{ItemOf}
use Rattle.otio_model.specs.declared.compositions.Listed.{Listed}
use Rattle.otio_model.specs.Trees.{items_of, listed}
use Rattle.otio_model.specs.Counts.{count, count_of}
use Rattle.otio_model.specs.Falls.{child_counts, count-listed}
use Rattle.otio_model.proofs.LengthLimits.{few_enough}

next_in : {A : Type 0} (xs : List A) (i : ℕ) (x : A) → slice_get xs i ≡ Some x → drop i xs ≡ x ∷ drop (suc i) xs
next_in [] zero x e = absurd (cc e)
next_in [] (suc i) x e = absurd (cc e)
next_in (y ∷ xs) zero x e = let same : y ≡ x = cc e in ap (λ z. z ∷ xs) same
next_in (y ∷ xs) (suc i) x e = next_in xs i x e

-- the members from an index on begin with the one there
pub next : {A : Type 0} (xs : List A) (i : ℕ) (x : A) → slice_get xs i ≡ Some x → drop i xs ≡ x ∷ drop (i + 1) xs
next xs i x e = rw add-one (next_in xs i x e)

-- and the index is one of theirs
pub got_below : {A : Type 0} (xs : List A) (i : ℕ) (x : A) → slice_get xs i ≡ Some x → i < length xs
got_below [] zero x e = absurd (cc e)
got_below [] (suc i) x e = absurd (cc e)
got_below (y ∷ xs) zero x e = omega arith
got_below (y ∷ xs) (suc i) x e = omega (arith, got_below xs i x e)

-- behind the last there is none
pub none_left : {A : Type 0} (xs : List A) (i : ℕ) → length xs ≤ i → drop i xs ≡ []
none_left [] zero h = refl
none_left [] (suc i) h = refl
none_left (x ∷ xs) zero h = absurd (omega (arith, h))
none_left (x ∷ xs) (suc i) h = none_left xs i (omega (arith, h))

-- a child has fewer items than there may be
pub child_few : (l : Listed) (i : ℕ) (x : ItemOf Listed) → slice_get (items_of l) i ≡ Some x → count l < 2 ^ 32 → count_of x < 2 ^ 32
child_few l i x e h = let k = child_counts l i x e in omega (arith, k, h)

-- and so has its index
pub index_few : (l : Listed) (i : ℕ) → i < length (items_of l) → count l < 2 ^ 32 → i < 2 ^ 32
index_few l i h k = omega (arith, few_enough l k, h)

-- one item alone
pub one_counts : (x : ItemOf Listed) → count (listed (x ∷ [])) ≡ count_of x
one_counts x = let e = count-listed (x ∷ []) in omega (arith, e)

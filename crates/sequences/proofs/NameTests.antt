-- Tests of names, and what they show.
use Rattle.std.proofs.Common.{◌≡◌, ℕ, Bool, true, false, not, ◌&&◌, List, [], ◌∷◌, refl}
use Rattle.std.specs.Str.{bytes_eq}
use Rattle.sequences.specs.Pairs.{IsNew, AreDistinct}
use Rattle.sequences.proofs.PairLemmas.{apart}

-- whether a name is none of these
abbrev pub is_new : List ℕ → List (List ℕ) → Bool
is_new n [] = true
is_new n (m ∷ ms) = not (bytes_eq n m) && is_new n ms

-- whether no name stands twice
abbrev pub are_distinct : List (List ℕ) → Bool
are_distinct [] = true
are_distinct (n ∷ ns) = is_new n ns && are_distinct ns

-- a name that passes the test is new
pub new_by : (n : List ℕ) (ms : List (List ℕ)) → is_new n ms ≡ true → IsNew n ms
new_by n [] h = tt
new_by n (m ∷ ms) h = by (bytes_eq n m) (is_new n ms) refl refl h (new_by n ms) where
  by : (s t : Bool) → bytes_eq n m ≡ s → is_new n ms ≡ t → (not (bytes_eq n m) && is_new n ms) ≡ true
      → (is_new n ms ≡ true → IsNew n ms) → IsNew n (m ∷ ms)
  by true t e f h below = absurd (cc (rw e at h))
  by false true e f h below = (apart n m e, below f)
  by false false e f h below = absurd (cc (rw (e, f) at h))

-- names that pass the test are distinct
pub distinct_by : (ns : List (List ℕ)) → are_distinct ns ≡ true → AreDistinct ns
distinct_by [] h = tt
distinct_by (n ∷ ns) h = by (is_new n ns) (are_distinct ns) refl refl h (distinct_by ns) where
  by : (s t : Bool) → is_new n ns ≡ s → are_distinct ns ≡ t → (is_new n ns && are_distinct ns) ≡ true
      → (are_distinct ns ≡ true → AreDistinct ns) → AreDistinct (n ∷ ns)
  by true true e f h below = (new_by n ns e, below f)
  by true false e f h below = absurd (cc (rw (e, f) at h))
  by false t e f h below = absurd (cc (rw e at h))

-- Members next to the rows.
use Rattle.std.proofs.Common.{◌≡◌, ℕ, Bool, true, false, List, [], ◌∷◌, refl}
use Rattle.sequences.specs.Pairs.{names_of, IsNew, AreDistinct}
use Rattle.std.specs.List.{filter}

IsNew-filter : {X : Type 0} (n : List ℕ) (p : (List ℕ × X) → Bool) (ps : List (List ℕ × X)) → IsNew n (names_of ps) → IsNew n (names_of (filter p ps))
IsNew-filter n p [] h = tt
IsNew-filter n p (q ∷ ps) h = by (p q) refl (IsNew-filter n p ps h.1) where
  by : (t : Bool) → p q ≡ t → IsNew n (names_of (filter p ps)) → IsNew n (names_of (filter p (q ∷ ps)))
  by true e below = rw e (h.0, below)
  by false e below = rw e below

-- distinct names stay so where pairs are left out
pub AreDistinct-filter : {X : Type 0} (p : (List ℕ × X) → Bool) (ps : List (List ℕ × X)) → AreDistinct (names_of ps) → AreDistinct (names_of (filter p ps))
AreDistinct-filter p [] h = tt
AreDistinct-filter p (q ∷ ps) h = by (p q) refl (AreDistinct-filter p ps h.1) where
  by : (t : Bool) → p q ≡ t → AreDistinct (names_of (filter p ps)) → AreDistinct (names_of (filter p (q ∷ ps)))
  by true e below = rw e (IsNew-filter q.0 p ps h.0, below)
  by false e below = rw e below

-- Names after one pair is taken out.
use Rattle.std.proofs.Common.{ℕ, zero, suc, List, [], ◌∷◌, ◌++◌, take, drop}
use Rattle.sequences.specs.Pairs.{names_of, IsNew, AreDistinct}

-- a new name is new among fewer
IsNew-remove : {X : Type 0} (n : List ℕ) (ps : List (List ℕ × X)) (i : ℕ) → IsNew n (names_of ps) → IsNew n (names_of (take i ps ++ drop (suc i) ps))
IsNew-remove n [] zero h = tt
IsNew-remove n [] (suc i) h = tt
IsNew-remove n (p ∷ ps) zero h = h.1
IsNew-remove n (p ∷ ps) (suc i) h = (h.0, IsNew-remove n ps i h.1)

-- names stay distinct where one is taken out
pub AreDistinct-remove : {X : Type 0} (ps : List (List ℕ × X)) (i : ℕ) → AreDistinct (names_of ps) → AreDistinct (names_of (take i ps ++ drop (suc i) ps))
AreDistinct-remove [] zero h = tt
AreDistinct-remove [] (suc i) h = tt
AreDistinct-remove (p ∷ ps) zero h = h.1
AreDistinct-remove (p ∷ ps) (suc i) h = (IsNew-remove p.0 ps i h.0, AreDistinct-remove ps i h.1)

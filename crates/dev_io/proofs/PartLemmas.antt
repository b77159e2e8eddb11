-- Texts in parts.
use Rattle.std.proofs.Common.{◌≡◌, ◌<◌, ◌≤◌, ◌+◌, ℕ, zero, suc, List, [], ◌∷◌, ◌++◌, refl, ap, drop, length, get_or, add-one, drop-cons, arith}
use Rattle.std.specs.Borrow.{Bor}
use Rattle.dev_io.specs.Parts.{joined}

-- nothing is left behind the end
pub drop_past : {A : Type 0} (xs : List A) (i : ℕ) → length xs ≤ i → drop i xs ≡ []
drop_past [] zero h = refl
drop_past [] (suc i) h = refl
drop_past (x ∷ xs) zero h = absurd (omega arith)
drop_past (x ∷ xs) (suc i) h = drop_past xs i (omega arith)

-- the next part, and those behind it
pub joined_next : (ps : List (Bor (List ℕ))) (i : ℕ) (d : Bor (List ℕ)) → i < length ps
    → joined (drop i ps) ≡ (get_or ps i d).now ++ joined (drop (i + 1) ps)
joined_next ps i d h =
    let e : drop i ps ≡ get_or ps i d ∷ drop (i + 1) ps = rw (add-one, drop-cons ps i d) refl in
    ap (λ (l : List (Bor (List ℕ))). joined l) e

-- no part is left at the end
pub joined_none : (ps : List (Bor (List ℕ))) (i : ℕ) → length ps ≤ i → joined (drop i ps) ≡ []
joined_none ps i h = ap (λ (l : List (Bor (List ℕ))). joined l) (drop_past ps i h)

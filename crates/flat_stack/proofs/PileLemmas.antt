-- The root children of inputs, one input after another.
use Rattle.std.proofs.Common.{◌≡◌, sym, ap, List, [], ◌∷◌, arith}
use Rattle.std.specs.Prelude.{slice_index_or, length}

-- a list of one element is what is taken from its front
pub only_one : {A : Type 0} (l : List A) (x : A) → length l ≡ 1 → x ≡ slice_index_or l 0 x
    → l ≡ x ∷ []
only_one [] x e f = absurd (omega (arith, e))
only_one (y ∷ []) x e f = ap (λ z. z ∷ []) (sym f)
only_one (y ∷ z ∷ l) x e f = absurd (omega (arith, e))

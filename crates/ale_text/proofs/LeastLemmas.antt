-- The least and the greatest of some numbers.
use Rattle.std.proofs.Common.{◌≡◌, ◌≤◌, ℕ, List, [], ◌∷◌, ◌++◌, max, min, refl, ap, ◌∙◌, arith}
use Rattle.ale_text.specs.Logs.{least, greatest}

-- with one number more
pub least_more : (n : ℕ) (numbers : List ℕ) (k : ℕ)
    → least ((n ∷ numbers) ++ k ∷ []) ≡ min (least (n ∷ numbers)) k
unfolding least
least_more n [] k = refl
least_more n (m ∷ numbers) k =
    ap (min n) (least_more m numbers k) ∙ omega arith

pub greatest_more : (numbers : List ℕ) (k : ℕ)
    → greatest (numbers ++ k ∷ []) ≡ max (greatest numbers) k
unfolding greatest
greatest_more [] k = omega arith
greatest_more (n ∷ numbers) k = ap (max n) (greatest_more numbers k) ∙ omega arith

-- the least is at most the first
pub least_first : (n : ℕ) (numbers : List ℕ) → least (n ∷ numbers) ≤ n
unfolding least
least_first n [] = omega arith
least_first n (m ∷ numbers) = omega arith

pub greatest_first : (n : ℕ) (numbers : List ℕ) → n ≤ greatest (n ∷ numbers)
unfolding greatest
greatest_first n numbers = omega arith

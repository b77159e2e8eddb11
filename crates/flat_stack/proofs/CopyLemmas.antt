-- Lists, one member after another.
use Rattle.std.proofs.Common.{◌≡◌, ap, ◌∙◌, ℕ, zero, suc, ◌+◌, List, [], ◌∷◌, ◌++◌, Some, take, drop, arith}
use Rattle.std.specs.Prelude.{slice_get}
use Rattle.coord.proofs.Members.{same_some}

taken : {A : Type 0} (xs : List A) (i : ℕ) (x : A) → slice_get xs i ≡ Some x → take (suc i) xs ≡ take i xs ++ x ∷ []
taken [] i x e = absurd (cc e)
taken (y ∷ xs) zero x e = ap (λ z. z ∷ []) (same_some y x e)
taken (y ∷ xs) (suc i) x e = ap (λ l. y ∷ l) (taken xs i x e)

pub taken_more : {A : Type 0} (xs : List A) (i : ℕ) (x : A) → slice_get xs i ≡ Some x → take (i + 1) xs ≡ take i xs ++ x ∷ []
taken_more xs i x e = ap (λ n. take n xs) (let k : i + 1 ≡ suc i = omega arith in k) ∙ taken xs i x e

pub head_is : {A : Type 0} (a b : A) (l m : List A) → a ∷ l ≡ b ∷ m → a ≡ b
head_is a b l m e = same_some a b (ap (λ z. slice_get z 0) e)

pub tail_is : {A : Type 0} (a b : A) (l m : List A) → a ∷ l ≡ b ∷ m → l ≡ m
tail_is a b l m e = ap (drop 1) e

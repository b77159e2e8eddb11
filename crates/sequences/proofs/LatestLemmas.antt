-- The value of a name among merged pairs is that of the last pair of the name.
use Rattle.std.proofs.Common.{◌≡◌, ℕ, List, [], ◌∷◌, Some, refl, ap, ◌∙◌, reverse, arith, if◌then◌else◌}
use mathlib.Core.List.{reverse_aux}
use Rattle.std.specs.Str.{bytes_eq}
use Rattle.std.proofs.lemmas.Slice.Eq.{bytes_eq-Decides}
use Rattle.sequences.specs.Pairs.{value_of, put, put_all, merged}

-- the value of a name where a value is put
pub value_of-put : {X : Type 0} (n m : List ℕ) (x : X) (ps : List (List ℕ × X)) → value_of n (put m x ps) ≡ value_of n ((m, x) ∷ ps)
value_of-put n m x [] = refl
value_of-put n m x (p ∷ ps) = grind (arith, bytes_eq-Decides n m, bytes_eq-Decides m p.0, bytes_eq-Decides n p.0, value_of-put n m x ps)

-- pairs with the same values, after others
value_of-after : {X : Type 0} (n : List ℕ) (xs ys zs : List (List ℕ × X)) → value_of n ys ≡ value_of n zs → value_of n (reverse_aux xs ys) ≡ value_of n (reverse_aux xs zs)
value_of-after n [] ys zs e = e
value_of-after n (x ∷ xs) ys zs e = value_of-after n xs (x ∷ ys) (x ∷ zs) (ap (λ v. if bytes_eq n x.0 then Some x.1 else v) e)

-- the values where many are put
value_of-put_all : {X : Type 0} (n : List ℕ) (kept ps : List (List ℕ × X)) → value_of n (put_all kept ps) ≡ value_of n (reverse_aux ps kept)
value_of-put_all n kept [] = refl
value_of-put_all n kept (p ∷ ps) =
    value_of-put_all n (put p.0 p.1 kept) ps ∙ value_of-after n ps (put p.0 p.1 kept) (p ∷ kept) (value_of-put n p.0 p.1 kept)

-- the value of a name among merged pairs
pub value_of-merged : {X : Type 0} (n : List ℕ) (ps : List (List ℕ × X)) → value_of n (merged ps) ≡ value_of n (reverse ps)
value_of-merged n ps = value_of-put_all n [] ps

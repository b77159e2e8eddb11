-- The value of a name whose pair stands at a known place.
use Rattle.std.proofs.Common.{◌≡◌, ℕ, zero, suc, ◌<◌, Bool, true, false, List, [], ◌∷◌, length, get_or, Some, refl, sym, ap, ◌∙◌, subst, arith}
use Rattle.std.specs.Str.{bytes_eq}
use Rattle.std.proofs.lemmas.Slice.Eq.{bytes_eq-Decides}
use Rattle.sequences.specs.Pairs.{names_of, IsNew, AreDistinct, value_of}

-- names that a test finds equal
found_same : (m n : List ℕ) → bytes_eq m n ≡ true → m ≡ n
found_same m n h = grind (arith, bytes_eq-Decides m n)

-- a new name is that of no pair
IsNew-apart : {X : Type 0} (n : List ℕ) (ps : List (List ℕ × X)) (i : ℕ) (d : List ℕ × X)
    → i < length ps → IsNew n (names_of ps) → n ≡ (get_or ps i d).0 → ⊥
IsNew-apart n [] i d h new e = absurd (omega arith)
IsNew-apart n (p ∷ ps) zero d h new e = new.0 e
IsNew-apart n (p ∷ ps) (suc i) d h new e = IsNew-apart n ps i d (omega arith) new.1 e

-- of distinct names, the value of a pair's name is that of the pair
value_of-at : {X : Type 0} (n : List ℕ) (ps : List (List ℕ × X)) (i : ℕ) (d : List ℕ × X)
    → AreDistinct (names_of ps) → i < length ps → bytes_eq n (get_or ps i d).0 ≡ true
    → Some (get_or ps i d).1 ≡ value_of n ps
value_of-at n [] i d all h t = absurd (omega arith)
value_of-at n (p ∷ ps) zero d all h t = rw t refl
value_of-at n (p ∷ ps) (suc i) d all h t =
    by (bytes_eq n p.0) refl (value_of-at n ps i d all.1 (omega arith) t)
  where
    by : (s : Bool) → bytes_eq n p.0 ≡ s → Some (get_or ps i d).1 ≡ value_of n ps
        → Some (get_or ps i d).1 ≡ value_of n (p ∷ ps)
    by true e below = absurd (IsNew-apart p.0 ps i d (omega arith) all.0
        (sym (found_same n p.0 e) ∙ found_same n (get_or ps i d).0 t))
    by false e below = rw e below

-- the same of a pair that was read
pub value_found : {X : Type 0} (n : List ℕ) (seen all : List (List ℕ × X)) (i : ℕ)
    (x : List ℕ × X) → seen ≡ all → AreDistinct (names_of all) → i < length seen
    → x ≡ get_or seen i x → bytes_eq n x.0 ≡ true → Some x.1 ≡ value_of n all
value_found n seen all i x same distinct within e t =
    let read : x ≡ get_or all i x = e ∙ ap (λ ps. get_or ps i x) same in
    ap (λ p. Some p.1) read
    ∙ value_of-at n all i x distinct (subst (λ ps. i < length ps) same within)
    (ap (λ p. bytes_eq n p.0) (sym read) ∙ t)

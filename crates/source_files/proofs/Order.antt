-- Things in an order.
use Rattle.std.proofs.Common.{◌≡◌, List, [], ◌∷◌, ◌++◌, inl, inr}
use Rattle.source_files.specs.Order.{EachIs, FirstIsNot}

-- the first that is none has one reason, where each has one and none is both
pub first_once : (A B W : Type 0) (Is : A → B → Type 0) (IsNot : A → W
    → Type 0) (xs : List A) (v w : W)
    → ((a : A) (v w : W) → IsNot a v → IsNot a w → v ≡ w)
    → ((a : A) (b : B) (w : W) → Is a b → IsNot a w → ⊥)
    → FirstIsNot Is IsNot xs v → FirstIsNot Is IsNot xs w → v ≡ w
first_once A B W Is IsNot [] v w one never p q = absurd p
first_once A B W Is IsNot (a ∷ xs) v w one never (inl p) (inl q) = one a v w p q
first_once A B W Is IsNot (a ∷ xs) v w one never (inl p) (inr q) = absurd (never a q.0 v q.1 p)
first_once A B W Is IsNot (a ∷ xs) v w one never (inr p) (inl q) = absurd (never a p.0 w p.1 q)
first_once A B W Is IsNot (a ∷ xs) v w one never (inr p) (inr q) =
    first_once A B W Is IsNot xs v w one never p.2 q.2

-- all are something, or the first that is none has a reason, never both
pub each_or_first : (A B W : Type 0) (Is : A → B → Type 0) (IsNot : A → W
    → Type 0) (xs : List A) (bs : List B) (w : W)
    → ((a : A) (b : B) (w : W) → Is a b → IsNot a w → ⊥) → EachIs Is xs bs
    → FirstIsNot Is IsNot xs w → ⊥
each_or_first A B W Is IsNot [] [] w never e p = p
each_or_first A B W Is IsNot [] (b ∷ bs) w never e p = p
each_or_first A B W Is IsNot (a ∷ xs) [] w never e p = e
each_or_first A B W Is IsNot (a ∷ xs) (b ∷ bs) w never e (inl p) = never a b w e.0 p
each_or_first A B W Is IsNot (a ∷ xs) (b ∷ bs) w never e (inr p) =
    each_or_first A B W Is IsNot xs bs w never e.1 p.2

-- one more that is something
pub each_more : {A B : Type 0} (Is : A → B → Type 0) (xs : List A) (bs : List B) (a : A) (b : B)
    → EachIs Is xs bs → Is a b
    → EachIs Is (xs ++ a ∷ []) (bs ++ b ∷ [])
each_more Is [] [] a b e i = (i, tt)
each_more Is [] (c ∷ bs) a b e i = absurd e
each_more Is (c ∷ xs) [] a b e i = absurd e
each_more Is (c ∷ xs) (d ∷ bs) a b e i = (e.0, each_more Is xs bs a b e.1 i)

-- the first that is none, after some that are something
pub first_behind : {A B W : Type 0} (Is : A → B → Type 0) (IsNot : A → W
    → Type 0) (front behind : List A) (bs : List B)
    (a : A) (w : W) → EachIs Is front bs → IsNot a w → FirstIsNot Is IsNot (front ++ a ∷ behind) w
first_behind Is IsNot [] behind bs a w e n = inl n
first_behind Is IsNot (c ∷ front) behind [] a w e n = absurd e
first_behind Is IsNot (c ∷ front) behind (d ∷ bs) a w e n =
    inr (d, e.0, first_behind Is IsNot front behind bs a w e.1 n)

-- another reason for the first that is none
pub first_for : {A B V W : Type 0} (Is : A → B → Type 0) (Not : A → V → Type 0) (Other : A → W
    → Type 0) (xs : List A)
    (v : V) (w : W) → ((a : A) → Not a v → Other a w) → FirstIsNot Is Not xs v
    → FirstIsNot Is Other xs w
first_for Is Not Other [] v w by p = p
first_for Is Not Other (a ∷ xs) v w by (inl p) = inl (by a p)
first_for Is Not Other (a ∷ xs) v w by (inr p) =
    inr (p.0, p.1, first_for Is Not Other xs v w by p.2)

-- Of the lists that a stable sort may give one is sorted.
use Rattle.std.proofs.Common.{◌≡◌, refl, sym, ap, subst, ◌∙◌, ℕ, suc, ◌+◌, Bool, true, false, not, ◌&&◌, cond, List, [], ◌∷◌, get_or, All, arith}
use Rattle.std.specs.Cmp.{IsStrictWeakOrder}
use Rattle.std.specs.List.{filter}
use Rattle.std.specs.List.Sorted.{IsSortedBy, IsStableBy, ties}
use Rattle.std.proofs.lemmas.List.Sorted.{sorted_far}
use Rattle.std.proofs.lemmas.List.Elements.{All-filter, All-head}

-- no element is less than itself
not_below : {X : Type 0} (lt : X → X → Bool) → IsStrictWeakOrder lt → (x : X) → lt x x ≡ false
not_below lt order x = by (lt x x) refl
  where
    by : (b : Bool) → lt x x ≡ b → lt x x ≡ false
    by false e = e
    by true e = absurd (cc (e, order.one_way x x e))

tied : {X : Type 0} (lt : X → X → Bool) → IsStrictWeakOrder lt → (x : X) → ties lt x x ≡ true
tied lt order x = ap (λ b. not b && not b) (not_below lt order x)

-- no element behind the first is less
pub first_least : {X : Type 0} (lt : X → X → Bool) → IsStrictWeakOrder lt → (x : X) (xs : List X)
    → IsSortedBy lt (x ∷ xs) → All (λ z. lt z x ≡ false) xs
first_least lt order x xs sorted k d less =
    sorted_far lt order (x ∷ xs) sorted 0 (suc k) d (omega arith) (omega (arith, less))

pub sorted_behind : {X : Type 0} (lt : X → X → Bool) (x : X) (xs : List X)
    → IsSortedBy lt (x ∷ xs) → IsSortedBy lt xs
sorted_behind lt x xs sorted k d low high =
    subst (λ n. lt (get_or (x ∷ xs) n d) (get_or xs k d) ≡ false) (same k)
    (sorted (suc k) d (omega arith) (omega (arith, high)))
  where
    same : (k : ℕ) → suc k + 1 ≡ suc (k + 1)
    same k = omega arith

-- what passes first stands first, where the first element passes
passing : {X : Type 0} (p : X → Bool) (x : X) (xs : List X) → p x ≡ true
    → filter p (x ∷ xs) ≡ x ∷ filter p xs
passing p x xs e = ap (λ b. cond b (x ∷ filter p xs) (filter p xs)) e

failing : {X : Type 0} (p : X → Bool) (x : X) (xs : List X) → p x ≡ false
    → filter p (x ∷ xs) ≡ filter p xs
failing p x xs e = ap (λ b. cond b (x ∷ filter p xs) (filter p xs)) e

-- an element that isn't less than y stands first among those that pass behind y
heads : {X : Type 0} (lt : X → X → Bool) → IsStrictWeakOrder lt → (p : X → Bool) (x y : X)
    (xs ys : List X) → IsSortedBy lt (y ∷ ys) → filter p (y ∷ ys) ≡ x ∷ filter p xs → p y ≡ false
    → lt x y ≡ false
heads lt order p x y xs ys sorted e fails =
    All-head (λ z. lt z y ≡ false) x (filter p xs)
    (subst (All (λ z. lt z y ≡ false)) (sym (failing p y ys fails) ∙ e)
    (All-filter p (λ z. lt z y ≡ false) ys (first_least lt order y ys sorted)))

turned : {X : Type 0} (lt : X → X → Bool) (x y : X) → ties lt x y ≡ false → ties lt y x ≡ false
turned lt x y e = by (lt x y) (lt y x) e
  where
    by : (a b : Bool) → (not a && not b) ≡ false → (not b && not a) ≡ false
    by true true e = refl
    by true false e = refl
    by false true e = refl
    by false false e = absurd (cc e)

-- the first elements tie
first_ties : {X : Type 0} (lt : X → X → Bool) → IsStrictWeakOrder lt → (x y : X) (xs ys : List X)
    → IsSortedBy lt (x ∷ xs) → IsSortedBy lt (y ∷ ys) → IsStableBy lt (x ∷ xs) (y ∷ ys)
    → ties lt x y ≡ true
first_ties lt order x y xs ys up down stable = by (ties lt x y) refl
  where
    by : (b : Bool) → ties lt x y ≡ b → ties lt x y ≡ true
    by true e = e
    by false e =
        let a = heads lt order (ties lt x) x y xs ys down
        (stable x ∙ passing (ties lt x) x xs (tied lt order x)) e in
        let b = heads lt order (ties lt y) y x ys xs up
        (sym (stable y) ∙ passing (ties lt y) y ys (tied lt order y)) (turned lt x y e) in
        absurd (cc (e, a, b))

-- what stands behind equal first elements
behind : {X : Type 0} (lt : X → X → Bool) (x : X) (xs ys : List X)
    → IsStableBy lt (x ∷ xs) (x ∷ ys) → IsStableBy lt xs ys
behind lt x xs ys stable z = by (ties lt z x) refl
  where
    by : (b : Bool) → ties lt z x ≡ b → filter (ties lt z) ys ≡ filter (ties lt z) xs
    by true e =
        let s = sym (passing (ties lt z) x ys e) ∙ stable z ∙ passing (ties lt z) x xs e in cc s
    by false e = sym (failing (ties lt z) x ys e) ∙ stable z ∙ failing (ties lt z) x xs e

-- two sorted lists in which elements that tie stand in one order are one
pub one_order : {X : Type 0} (lt : X → X → Bool) → IsStrictWeakOrder lt → (xs ys : List X)
    → IsSortedBy lt xs → IsSortedBy lt ys → IsStableBy lt xs ys → xs ≡ ys
one_order lt order [] [] up down stable = refl
one_order lt order [] (y ∷ ys) up down stable =
    absurd (cc (sym (passing (ties lt y) y ys (tied lt order y)) ∙ stable y))
one_order lt order (x ∷ xs) [] up down stable =
    absurd (cc (stable x ∙ passing (ties lt x) x xs (tied lt order x)))
one_order lt order (x ∷ xs) (y ∷ ys) up down stable =
    let t = first_ties lt order x y xs ys up down stable in
    let s = sym (passing (ties lt x) y ys t) ∙ stable x
    ∙ passing (ties lt x) x xs (tied lt order x) in
    let same : y ≡ x = cc s in
    let rest : IsStableBy lt xs ys =
    behind lt x xs ys (subst (λ w. IsStableBy lt (x ∷ xs) (w ∷ ys)) same stable) in
    let more : xs ≡ ys = one_order lt order xs ys (sorted_behind lt x xs up)
    (sorted_behind lt y ys down) rest in
    cc (more, same)

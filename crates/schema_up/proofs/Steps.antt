-- A list of which the first members are done, one after another.
use Rattle.std.proofs.Common.{◌≡◌, ℕ, zero, suc, ◌+◌, ◌<◌, ◌≤◌, List, [], ◌∷◌, length, get_or, set, map, max, refl, ap, sym, ◌∙◌, add-one, arith}
use denote.Param.Weighed.{at_most, most}

-- the list with its first i members changed
abbrev pub done : {X : Type 0} → (X → X) → ℕ → List X → List X
done f zero xs = xs
done f (suc i) [] = []
done f (suc i) (x ∷ xs) = f x ∷ done f i xs

-- the next member is as it was
pub done-next : {X : Type 0} (f : X → X) (i : ℕ) (xs : List X) (d : X) → get_or (done f i xs) i d ≡ get_or xs i d
done-next f zero xs d = refl
done-next f (suc i) [] d = refl
done-next f (suc i) (x ∷ xs) d = done-next f i xs d

pub length-done : {X : Type 0} (f : X → X) (i : ℕ) (xs : List X) → length (done f i xs) ≡ length xs
length-done f zero xs = refl
length-done f (suc i) [] = refl
length-done f (suc i) (x ∷ xs) = ap suc (length-done f i xs)

set_done : {X : Type 0} (f : X → X) (i : ℕ) (xs : List X) (d : X) → i < length xs → set (done f i xs) i (f (get_or xs i d)) ≡ done f (suc i) xs
set_done f zero [] d h = absurd (omega arith)
set_done f zero (x ∷ xs) d h = refl
set_done f (suc i) [] d h = absurd (omega arith)
set_done f (suc i) (x ∷ xs) d h = ap (λ l. f x ∷ l) (set_done f i xs d (omega arith))

-- one more member becomes what it is to be
pub done-more : {X : Type 0} (f : X → X) (i : ℕ) (xs now : List X) (x z : X) → i < length xs → now ≡ done f i xs → x ≡ get_or now i x → z ≡ f x → set now i z ≡ done f (i + 1) xs
done-more f i xs now x z h is at to =
    let was : x ≡ get_or xs i x = at ∙ ap (λ l. get_or l i x) is ∙ done-next f i xs x in
    ap (λ l. set l i z) is ∙ ap (λ w. set (done f i xs) i w) (to ∙ ap f was) ∙ set_done f i xs x h ∙ ap (λ k. done f k xs) (sym (add-one i))

-- all members
pub done-all : {X : Type 0} (f : X → X) (i : ℕ) (xs : List X) → length xs ≤ i → done f i xs ≡ map f xs
done-all f zero [] h = refl
done-all f zero (x ∷ xs) h = absurd (omega arith)
done-all f (suc i) [] h = refl
done-all f (suc i) (x ∷ xs) h = ap (λ l. f x ∷ l) (done-all f i xs (omega arith))

-- the member that comes next, as it was
pub next_was : {X : Type 0} (f : X → X) (i : ℕ) (xs now : List X) (x : X) → now ≡ done f i xs → x ≡ get_or now i x → x ≡ get_or xs i x
next_was f i xs now x is at = at ∙ ap (λ l. get_or l i x) is ∙ done-next f i xs x

-- a member is no deeper than the deepest
pub no_deeper : {X : Type 0} (depth : X → ℕ) (xs : List X) (i : ℕ) (x : X) → i < length xs → x ≡ get_or xs i x → depth x ≤ most depth xs
no_deeper depth xs i x h at = let k = at_most depth xs i x h in rw (← at) at k

-- a pair's value is no deeper than the deepest
pub no_deeper_value : {X : Type 0} (depth : X → ℕ) (pairs : List (List ℕ × X)) (i : ℕ) (pair : List ℕ × X) → i < length pairs → pair ≡ get_or pairs i pair
    → depth pair.1 ≤ most (λ (p : List ℕ × X). max 0 (depth p.1)) pairs
no_deeper_value {X = X} depth pairs i pair h at = let k = no_deeper (λ (p : List ℕ × X). max 0 (depth p.1)) pairs i pair h at in omega (arith, k)

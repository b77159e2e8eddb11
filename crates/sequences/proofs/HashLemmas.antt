-- Names that are distinct since their hashes are.
use Rattle.std.proofs.Common.{◌≡◌, ℕ, suc, ◌+◌, ◌<◌, ◌≤◌, Bool, true, false, List, [], ◌∷◌, ◌++◌, take, length, map, get_or, refl, sym, ap, ◌∙◌, subst, arith, cond, append_assoc, length-append, eq-eqb}
use Rattle.std.proofs.lemmas.Bool.Decides.{nat_tests}
use Rattle.std.proofs.lemmas.List.{take_more}
use Rattle.std.proofs.lemmas.List.Sums.{sum_by-cons, sum_by-append}
use Rattle.std.proofs.lemmas.List.Sorted.{sum_by-IsPermutation}
use Rattle.std.proofs.lemmas.List.Kept.{AllPairs-from_increasing}
use Rattle.std.proofs.lemmas.Slice.Eq.{bytes_eq-Decides}
use Rattle.std.specs.Prelude.{◌==◌, nat_lt, slice_index}
use Rattle.std.specs.List.{sum_by, All, AllPairs}
use Rattle.std.specs.List.Sorted.{IsPermutation, IsStrictlyIncreasing}
use Rattle.std.specs.Str.{bytes_eq}
use Rattle.sequences.specs.Pairs.{names_of, merged}
use Rattle.sequences.specs.Places.{place_of, add_names}
use Rattle.sequences.proofs.PairLemmas.{add_name-new, merged-new, length-names_of, names_of-end}

-- 1 for that number, and 0 for others
abbrev pub same : ℕ → ℕ → ℕ
same z x = cond (x == z) 1 0

same_self : (z : ℕ) → same z z ≡ 1
same_self z = let e : (z == z) ≡ true = eq-eqb z z refl in rw e refl

same_other : (z x : ℕ) → (x == z) ≡ false → same z x ≡ 0
same_other z x e = rw e refl

-- a number below all of some is none of them
none : (z : ℕ) (xs : List ℕ) → All (λ x. z < x) xs → sum_by (same z) xs ≡ 0
none z [] h = refl
none z (x ∷ xs) h =
    let above : z < x = h 0 x (omega arith) in
    let e : (x == z) ≡ false = grind (arith, nat_tests, above) in
    let rest = none z xs (λ k d l. h (suc k) d (omega (arith, l))) in
    omega (arith, sum_by-cons (same z) x xs, same_other z x e, rest)

-- each number stands at most once among numbers that rise
once : (z : ℕ) (xs : List ℕ) → AllPairs (λ x y. x < y) xs → sum_by (same z) xs ≤ 1
once z [] h = omega arith
once z (x ∷ xs) h = by (x == z) refl (once z xs (λ i j d l m. h (suc i) (suc j) d (omega (arith, l)) (omega (arith, m))))
  where
    above : All (λ y. x < y) xs
    above = λ k d l. h 0 (suc k) d (omega arith) (omega (arith, l))

    by : (t : Bool) → (x == z) ≡ t → sum_by (same z) xs ≤ 1 → sum_by (same z) (x ∷ xs) ≤ 1
    by true e rest =
        let is : x ≡ z = grind (arith, nat_tests, e) in
        let one : same z x ≡ 1 = rw e refl in
        omega (arith, sum_by-cons (same z) x xs, one, none z xs (subst (λ (y : ℕ). All (λ x. y < x) xs) is above))
    by false e rest = omega (arith, sum_by-cons (same z) x xs, same_other z x e, rest)

-- a name whose hash is none of those of other names is new
fresh : (hash : List ℕ → ℕ) (n : List ℕ) (known : List (List ℕ)) → sum_by (same (hash n)) (map hash known) ≡ 0 → place_of n known ≡ length known
fresh hash n [] e = refl
fresh hash n (m ∷ ms) e = by (bytes_eq n m) refl (fresh hash n ms (omega (arith, e, sum_by-cons (same (hash n)) (hash m) (map hash ms))))
  where
    by : (t : Bool) → bytes_eq n m ≡ t → place_of n ms ≡ length ms → place_of n (m ∷ ms) ≡ length (m ∷ ms)
    by true q below =
        let is : n ≡ m = grind (arith, bytes_eq-Decides n m, q) in
        let one : same (hash n) (hash m) ≡ 1 = subst (λ (k : List ℕ). same (hash n) (hash k) ≡ 1) is (same_self (hash n)) in
        absurd (omega (arith, e, one, sum_by-cons (same (hash n)) (hash m) (map hash ms)))
    by false q below = rw q (ap suc below)

map_end : (hash : List ℕ → ℕ) (ns : List (List ℕ)) (n : List ℕ) → map hash (ns ++ n ∷ []) ≡ map hash ns ++ hash n ∷ []
map_end hash [] n = refl
map_end hash (m ∷ ns) n = ap (λ x. hash m ∷ x) (map_end hash ns n)

-- names all of whose hashes are apart are all new
all_new : (hash : List ℕ → ℕ) (known ns : List (List ℕ)) → ((z : ℕ) → sum_by (same z) (map hash known ++ map hash ns) ≤ 1) → length (add_names known ns) ≡ length known + length ns
all_new hash known [] few = omega arith
all_new hash known (n ∷ ns) few =
    let z = hash n in
    let e : sum_by (same z) (map hash known) ≡ 0 = omega (arith, few z, sum_by-append (same z) (map hash known) (z ∷ map hash ns), sum_by-cons (same z) z (map hash ns), same_self z) in
    let added = add_name-new n known (fresh hash n known e) in
    let is : map hash known ++ (z ∷ map hash ns) ≡ map hash (known ++ n ∷ []) ++ map hash ns =
    sym (append_assoc (map hash known) (z ∷ []) (map hash ns)) ∙ ap (λ (x : List ℕ). x ++ map hash ns) (sym (map_end hash known n)) in
    let rest = all_new hash (known ++ n ∷ []) ns (λ y. subst (λ (x : List ℕ). sum_by (same y) x ≤ 1) is (few y)) in
    omega (arith, ap (λ k. length (add_names k ns)) added, rest, length-append known (n ∷ []))

-- pairs whose names have distinct hashes stay as they are
pub merged-distinct : {X : Type 0} (hash : List ℕ → ℕ) (ps : List (List ℕ × X)) (hashes sorted : List ℕ) → hashes ≡ map hash (names_of ps) → IsPermutation hashes sorted → IsStrictlyIncreasing sorted
    → merged ps ≡ ps
merged-distinct hash ps hashes sorted is moved rising =
    let pairs = AllPairs-from_increasing sorted rising in
    let few : (z : ℕ) → sum_by (same z) (map hash (names_of ps)) ≤ 1 =
    λ z. subst (λ (x : List ℕ). sum_by (same z) x ≤ 1) is (omega (arith, sum_by-IsPermutation (same z) hashes sorted moved, once z sorted pairs)) in
    let all = all_new hash [] (names_of ps) few in
    merged-new ps (omega (arith, all, length-names_of ps))

-- the hash of one name more
pub hashes-more : {X : Type 0} (hash : List ℕ → ℕ) (ps : List (List ℕ × X)) (i : ℕ) (x : List ℕ × X) → i < length ps → x ≡ get_or ps i x
    → map hash (names_of (take (i + 1) ps)) ≡ map hash (names_of (take i ps)) ++ hash x.0 ∷ []
hashes-more hash ps i x h e =
    let more : take (i + 1) ps ≡ take i ps ++ x ∷ [] = take_more ps i x h ∙ ap (λ y. take i ps ++ y ∷ []) (sym e) in
    ap (λ qs. map hash (names_of qs)) more ∙ ap (map hash) (names_of-end (take i ps) x) ∙ map_end hash (names_of (take i ps)) x.0

-- one number more that rises
pub rising-more : (xs : List ℕ) (i : ℕ) → ((k : ℕ) → k + 1 < i → slice_index xs k < slice_index xs (k + 1)) → (j : ℕ) → j + 1 ≡ i → slice_index xs j < slice_index xs i
    → (k : ℕ) → k + 1 < i + 1 → slice_index xs k < slice_index xs (k + 1)
rising-more xs i below j is last k h = by (nat_lt (k + 1) i) refl
  where
    by : (t : Bool) → nat_lt (k + 1) i ≡ t → slice_index xs k < slice_index xs (k + 1)
    by true e = below k (grind (arith, nat_tests, e))
    by false e =
        let here : k ≡ j = grind (arith, nat_tests, e, is, h) in
        let there : i ≡ k + 1 = omega (arith, here, is) in
        subst (λ (y : ℕ). slice_index xs y < slice_index xs (k + 1)) (sym here) (subst (λ (y : ℕ). slice_index xs j < slice_index xs y) there last)

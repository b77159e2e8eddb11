-- In a list that is in the order of its keys, the elements of one key stand together.
use Rattle.std.proofs.Common.{◌≡◌, ◌<◌, ◌≤◌, ◌+◌, ◌-◌, ◌==◌, cond, nat_lt, nat_le, ℕ, suc, Bool, true, false, List, [], ◌∷◌, ◌++◌, length, take, drop, slice_index_or, filter, refl, sym, ap, subst, ◌∙◌, append-nil, arith}
use Rattle.std.specs.Ordering.{is_lt, nat_cmp}
use Rattle.std.specs.List.Sorted.{IsStableByKey, IsNonDecreasingBy, IsPartitionPoint, ties}
use Rattle.std.proofs.lemmas.Bool.{eqb-true}
use Rattle.std.proofs.lemmas.Bool.Decides.{nat_tests}
use Rattle.std.proofs.lemmas.List.{get_or-take, get_or-drop, length-take-le, length-drop, take-append-drop}
use Rattle.std.proofs.lemmas.List.Elements.{filter-append, filter_agree}
use Rattle.std.proofs.lemmas.List.Sorted.{IsNonDecreasingBy-drop}
use Rattle.note_text.proofs.SortedNotes.{tie}

none_pass : {A : Type 0} (key : A → ℕ) (k : ℕ) (xs : List A)
    → ((i : ℕ) (d : A) → i < length xs → (key (slice_index_or xs i d) == k) ≡ false)
    → filter (λ o. key o == k) xs ≡ []
none_pass key k [] h = refl
none_pass key k (x ∷ xs) h = rw (h 0 x (omega arith)) (none_pass key k xs (λ i d l. h (suc i) d (omega (arith, l))))

all_pass : {A : Type 0} (key : A → ℕ) (k : ℕ) (xs : List A)
    → ((i : ℕ) (d : A) → i < length xs → (key (slice_index_or xs i d) == k) ≡ true)
    → filter (λ o. key o == k) xs ≡ xs
all_pass key k [] h = refl
all_pass key k (x ∷ xs) h = rw (h 0 x (omega arith)) (ap (λ l. x ∷ l) (all_pass key k xs (λ i d l. h (suc i) d (omega (arith, l)))))

below : (a b : ℕ) → nat_lt a b ≡ true → (a == b) ≡ false
below a b e = grind (arith, nat_tests, e)

level : (a b : ℕ) → nat_lt a b ≡ false → nat_le a b ≡ true → (a == b) ≡ true
level a b e f = grind (arith, nat_tests, e, f)

past : (a b : ℕ) → nat_le a b ≡ false → (a == b) ≡ false
past a b e = grind (arith, nat_tests, e)

-- the elements of a key are those from the first that isn't below it to the last that isn't above it
pub run-of_key : {A : Type 0} (key : A → ℕ) (k : ℕ) (xs rest : List A) (from to : ℕ)
    → from ≤ length xs → to ≤ length rest → rest ≡ drop from xs
    → IsPartitionPoint (λ o. nat_lt (key o) k ≡ true) (λ o. nat_lt (key o) k ≡ false) xs from
    → IsPartitionPoint (λ o. nat_le (key o) k ≡ true) (λ o. nat_le (key o) k ≡ false) rest to
    → take to rest ≡ filter (λ o. key o == k) xs
run-of_key {A = A} key k xs rest from to low high is first second =
    let p : A → Bool = λ o. key o == k in
    let short = length-take-le from xs low in
    let brief = length-take-le to rest high in
    let left : length rest ≡ length xs - from = ap length is ∙ length-drop from xs in
    let behind = length-drop to rest in
    let front : filter p (take from xs) ≡ [] = none_pass key k (take from xs) (λ i d l.
    let w : i < from = omega (arith, l, short) in
    subst (λ (o : A). (key o == k) ≡ false) (sym (get_or-take from xs i d w)) (below _ k (first.0 i d (omega arith) w))) in
    let at : (i : ℕ) (d : A) → slice_index_or rest i d ≡ slice_index_or xs (from + i) d = λ i d. ap (λ l. slice_index_or l i d) is ∙ get_or-drop from xs i d in
    let middle : filter p (take to rest) ≡ take to rest = all_pass key k (take to rest) (λ i d l.
    let w : i < to = omega (arith, l, brief) in
    let low2 : nat_lt (key (slice_index_or rest i d)) k ≡ false =
    subst (λ (o : A). nat_lt (key o) k ≡ false) (sym (at i d)) (first.1 (from + i) d (omega arith) (omega (arith, w, high, left, low))) in
    subst (λ (o : A). (key o == k) ≡ true) (sym (get_or-take to rest i d w)) (level _ k low2 (second.0 i d (omega arith) w))) in
    let back : filter p (drop to rest) ≡ [] = none_pass key k (drop to rest) (λ i d l.
    subst (λ (o : A). (key o == k) ≡ false) (sym (get_or-drop to rest i d)) (past _ k (second.1 (to + i) d (omega arith) (omega (arith, l, behind, high))))) in
    let tail : filter p rest ≡ take to rest =
    ap (filter p) (sym (take-append-drop to rest)) ∙ filter-append p (take to rest) (drop to rest)
    ∙ ap (λ l. filter p (take to rest) ++ l) back ∙ append-nil (filter p (take to rest)) ∙ middle in
    let whole : filter p xs ≡ filter p rest =
    ap (filter p) (sym (take-append-drop from xs)) ∙ filter-append p (take from xs) (drop from xs)
    ∙ ap (λ l. l ++ filter p (drop from xs)) front ∙ ap (filter p) (sym is) in
    sym (whole ∙ tail)

-- what is left behind a front of such a list is in that order too
pub keys-rise_on : {A : Type 0} (key : A → ℕ) (xs rest : List A) (from : ℕ) → rest ≡ drop from xs
    → IsNonDecreasingBy key xs → IsNonDecreasingBy key rest
keys-rise_on key xs rest from is up = subst (IsNonDecreasingBy key) (sym is) (IsNonDecreasingBy-drop key from xs up)

head_passes : {A : Type 0} (p : A → Bool) (xs : List A) (z : A) (zs : List A) → filter p xs ≡ z ∷ zs → p z ≡ true
head_passes p [] z zs e = absurd (cc e)
head_passes p (x ∷ xs) z zs e = by (p x) refl (head_passes p xs z zs) e
  where
    by : (b : Bool) → p x ≡ b → (filter p xs ≡ z ∷ zs → p z ≡ true) → cond b (x ∷ filter p xs) (filter p xs) ≡ z ∷ zs → p z ≡ true
    by true t h f = let same : x ≡ z = cc f in subst (λ y. p y ≡ true) same t
    by false t h f = h f

-- a stable sort keeps the elements of each key
pub run-kept_by_sort : {A : Type 0} (key : A → ℕ) (order sorted : List A) → IsStableByKey key nat_cmp order sorted → (k : ℕ)
    → filter (λ o. key o == k) sorted ≡ filter (λ o. key o == k) order
run-kept_by_sort {A = A} key order sorted stable k = by (filter p sorted) (filter p order) refl refl
  where
    p : A → Bool
    p b = key b == k

    from : (z : A) → p z ≡ true → filter p sorted ≡ filter p order
    from z t =
        let same : key z ≡ k = eqb-true (key z) k t in
        let agree : (xs : List A) → filter (ties (λ (a b : A). is_lt (nat_cmp (key a) (key b))) z) xs ≡ filter p xs =
        filter_agree (ties (λ (a b : A). is_lt (nat_cmp (key a) (key b))) z) p (λ n. tie (key z) (key n) ∙ ap (λ m. key n == m) same) in
        sym (agree sorted) ∙ stable z ∙ agree order

    by : (a b : List A) → filter p sorted ≡ a → filter p order ≡ b → filter p sorted ≡ filter p order
    by (z ∷ zs) b e f = from z (head_passes p sorted z zs e)
    by [] (z ∷ zs) e f = from z (head_passes p order z zs f)
    by [] [] e f = e ∙ sym f

-- Pairs after a change, and the places of their names.
use Rattle.std.proofs.Common.{length-append, zero-add, Result, Ok, Err, OnOk, OnErr, IsSome, ◌≡◌, ◌≢◌, ℕ, zero, suc, ◌+◌, ◌<◌, ◌≤◌, Bool, true, false, List, [], ◌∷◌, ◌++◌, take, drop, length, get_or, set, drop-cons, add-one, refl, ap, sym, ◌∙◌, arith, option_map, slice_get, append_assoc, append-nil}
use Rattle.std.proofs.lemmas.List.{take_more, length-take-le}
use Rattle.std.specs.Str.{bytes_eq}
use Rattle.std.proofs.lemmas.Slice.Eq.{bytes_eq-Decides}
use Rattle.sequences.specs.Pairs.{names_of, IsNew, AreDistinct, value_of, put, put_all, merged}
use Rattle.sequences.specs.Places.{place_of, add_name, add_names, places_in}

-- a place is at most past the end
pub place_of-le : (n : List ℕ) (ns : List (List ℕ)) → place_of n ns ≤ length ns
place_of-le n [] = omega arith
place_of-le n (m ∷ ms) = grind (arith, place_of-le n ms)

-- a name that is there is not added
pub add_name-known : (n : List ℕ) (ns : List (List ℕ)) → place_of n ns < length ns → add_name n ns ≡ ns
add_name-known n [] h = absurd (omega arith)
add_name-known n (m ∷ ms) h = grind (arith, add_name-known n ms)

-- a name that is not there is added at the end
pub add_name-new : (n : List ℕ) (ns : List (List ℕ)) → place_of n ns ≡ length ns → add_name n ns ≡ ns ++ n ∷ []
add_name-new n [] h = refl
add_name-new n (m ∷ ms) h = grind (arith, add_name-new n ms)

-- as many names as pairs
pub length-names_of : {X : Type 0} (ps : List (List ℕ × X)) → length (names_of ps) ≡ length ps
length-names_of [] = refl
length-names_of (p ∷ ps) = ap suc (length-names_of ps)

-- the names where a value is put
pub names_of-put : {X : Type 0} (n : List ℕ) (x : X) (ps : List (List ℕ × X)) → names_of (put n x ps) ≡ add_name n (names_of ps)
names_of-put n x [] = refl
names_of-put n x (p ∷ ps) = grind (arith, bytes_eq-Decides n p.0, names_of-put n x ps)

-- the names with one more pair at the end
pub names_of-end : {X : Type 0} (ps : List (List ℕ × X)) (p : List ℕ × X) → names_of (ps ++ p ∷ []) ≡ names_of ps ++ p.0 ∷ []
names_of-end [] p = refl
names_of-end (q ∷ ps) p = ap (λ ns. q.0 ∷ ns) (names_of-end ps p)

-- the value of a name stands at the name's place
pub value_of-place : {X : Type 0} (n : List ℕ) (ps : List (List ℕ × X)) → value_of n ps ≡ option_map (λ p. p.1) (slice_get ps (place_of n (names_of ps)))
value_of-place n [] = refl
value_of-place n (p ∷ ps) = grind (arith, value_of-place n ps)

-- a value is put in the place of the one that is there
pub put-known : {X : Type 0} (n : List ℕ) (x : X) (ps : List (List ℕ × X)) (d : List ℕ × X) → place_of n (names_of ps) < length ps
    → put n x ps ≡ set ps (place_of n (names_of ps)) ((get_or ps (place_of n (names_of ps)) d).0, x)
put-known n x [] d h = absurd (omega arith)
put-known n x (p ∷ ps) d h = grind (arith, bytes_eq-Decides n p.0, put-known n x ps d)

-- and else at the end
pub put-new : {X : Type 0} (n : List ℕ) (x : X) (ps : List (List ℕ × X)) → place_of n (names_of ps) ≡ length ps → put n x ps ≡ ps ++ (n, x) ∷ []
put-new n x [] h = refl
put-new n x (p ∷ ps) h = grind (arith, put-new n x ps)

-- two names that a test tells apart
pub apart : (m n : List ℕ) → bytes_eq m n ≡ false → m ≢ n
apart m n h e = grind (arith, bytes_eq-Decides m n)

-- two tests of two names, by which name is looked for
pub bytes_eq-sym : (m n : List ℕ) → bytes_eq m n ≡ bytes_eq n m
bytes_eq-sym m n = grind (arith, bytes_eq-Decides m n, bytes_eq-Decides n m)

-- a name other than n is new where n is added, if it was new
IsNew-add_name : (m n : List ℕ) (ns : List (List ℕ)) → m ≢ n → IsNew m ns → IsNew m (add_name n ns)
IsNew-add_name m n [] e h = (e, tt)
IsNew-add_name m n (k ∷ ks) e h = by (bytes_eq n k) refl (IsNew-add_name m n ks e h.1) where
  by : (t : Bool) → bytes_eq n k ≡ t → IsNew m (add_name n ks) → IsNew m (add_name n (k ∷ ks))
  by true q below = rw q h
  by false q below = rw q (h.0, below)

-- names stay distinct where one is added
pub AreDistinct-add_name : (n : List ℕ) (ns : List (List ℕ)) → AreDistinct ns → AreDistinct (add_name n ns)
AreDistinct-add_name n [] h = (tt, tt)
AreDistinct-add_name n (k ∷ ks) h = by (bytes_eq n k) refl (AreDistinct-add_name n ks h.1) where
  by : (t : Bool) → bytes_eq n k ≡ t → AreDistinct (add_name n ks) → AreDistinct (add_name n (k ∷ ks))
  by true q below = rw q h
  by false q below = rw q (IsNew-add_name k n ks (λ e. apart n k q (sym e)) h.0, below)

-- names stay distinct where many are added
pub AreDistinct-add_names : (ms ns : List (List ℕ)) → AreDistinct ms → AreDistinct (add_names ms ns)
AreDistinct-add_names ms [] h = h
AreDistinct-add_names ms (n ∷ ns) h = AreDistinct-add_names (add_name n ms) ns (AreDistinct-add_name n ms h)

-- the names where many values are put
pub names_of-put_all : {X : Type 0} (kept ps : List (List ℕ × X)) → names_of (put_all kept ps) ≡ add_names (names_of kept) (names_of ps)
names_of-put_all kept [] = refl
names_of-put_all kept (p ∷ ps) = names_of-put_all (put p.0 p.1 kept) ps ∙ ap (λ ns. add_names ns (names_of ps)) (names_of-put p.0 p.1 kept)

-- names stay distinct where a value is put
pub AreDistinct-put : {X : Type 0} (n : List ℕ) (x : X) (ps : List (List ℕ × X)) → AreDistinct (names_of ps) → AreDistinct (names_of (put n x ps))
AreDistinct-put n x ps h = rw (names_of-put n x ps) (AreDistinct-add_name n (names_of ps) h)

-- merged pairs have distinct names
pub AreDistinct-merged : {X : Type 0} (ps : List (List ℕ × X)) → AreDistinct (names_of (merged ps))
AreDistinct-merged ps = rw (names_of-put_all [] ps) (AreDistinct-add_names [] (names_of ps) tt)

-- one more pair is put last
pub put_all-more : {X : Type 0} (kept ps : List (List ℕ × X)) (p : List ℕ × X) → put_all kept (ps ++ p ∷ []) ≡ put p.0 p.1 (put_all kept ps)
put_all-more kept [] p = refl
put_all-more kept (q ∷ ps) p = put_all-more (put q.0 q.1 kept) ps p

-- one more name is added last
pub add_names-more : (known ns : List (List ℕ)) (n : List ℕ) → add_names known (ns ++ n ∷ []) ≡ add_name n (add_names known ns)
add_names-more known [] n = refl
add_names-more known (m ∷ ns) n = add_names-more (add_name m known) ns n

-- at most one name is added
length-add_name : (n : List ℕ) (ns : List (List ℕ)) → length (add_name n ns) ≤ length ns + 1
length-add_name n [] = omega arith
length-add_name n (m ∷ ms) = grind (arith, length-add_name n ms)

-- where the names become more, the name was not there
pub is_new : (n : List ℕ) (ns : List (List ℕ)) → length (add_name n ns) ≡ length ns + 1 → place_of n ns ≡ length ns
is_new n [] h = refl
is_new n (m ∷ ms) h = grind (arith, is_new n ms)

-- at most all of the names are new
pub length-add_names : (known ns : List (List ℕ)) → length (add_names known ns) ≤ length known + length ns
length-add_names known [] = omega arith
length-add_names known (n ∷ ns) = omega (arith, length-add_name n known, length-add_names (add_name n known) ns)

-- where each pair is put at the end, they stay as they are
pub put_all-new : {X : Type 0} (kept ps : List (List ℕ × X)) → length (add_names (names_of kept) (names_of ps)) ≡ length kept + length ps → put_all kept ps ≡ kept ++ ps
put_all-new kept [] h = sym (append-nil kept)
put_all-new kept (p ∷ ps) h =
    let few = length-add_names (add_name p.0 (names_of kept)) (names_of ps) in
    let grown : length (add_name p.0 (names_of kept)) ≡ length (names_of kept) + 1 =
    omega (arith, few, length-add_name p.0 (names_of kept), length-names_of kept, length-names_of ps, h) in
    let at_end : put p.0 p.1 kept ≡ kept ++ p ∷ [] = put-new p.0 p.1 kept (is_new p.0 (names_of kept) grown ∙ length-names_of kept) in
    let e = ap (λ ns. length (add_names ns (names_of ps))) (names_of-put p.0 p.1 kept) in
    let long : length (put p.0 p.1 kept) ≡ length kept + 1 = ap length at_end ∙ length-append kept (p ∷ []) in
    let below : length (add_names (names_of (put p.0 p.1 kept)) (names_of ps)) ≡ length (put p.0 p.1 kept) + length ps = omega (arith, e, long, h) in
    put_all-new (put p.0 p.1 kept) ps below ∙ ap (λ k. k ++ ps) at_end ∙ append_assoc kept (p ∷ []) ps

-- a value put at a place that is known
pub put-at : {X : Type 0} (n : List ℕ) (x : X) (ps : List (List ℕ × X)) (i : ℕ) (d : List ℕ × X) → i ≡ place_of n (names_of ps) → i < length ps → d ≡ get_or ps i d
    → set ps i (d.0, x) ≡ put n x ps
put-at n x ps i d e h q = let k = put-known n x ps d (rw (← e) h) in cc

-- a value put at the place past the end
pub put-end : {X : Type 0} (n : List ℕ) (x : X) (ps : List (List ℕ × X)) (i : ℕ) → i ≡ place_of n (names_of ps) → length ps ≤ i → put n x ps ≡ ps ++ (n, x) ∷ []
put-end n x ps i e h = put-new n x ps (omega (arith, place_of-le n (names_of ps), length-names_of ps))

-- names are distinct after a call that puts a value or changes nothing
pub AreDistinct-after_put : {X E : Type 0} (r : Result (Unit {0}) E) (n : List ℕ) (x : X) (old new : List (List ℕ × X)) → OnOk r (new ≡ put n x old) → OnErr r (new ≡ old)
    → AreDistinct (names_of old) → AreDistinct (names_of new)
AreDistinct-after_put (Ok u) n x old new done kept h = rw done (AreDistinct-put n x old h)
AreDistinct-after_put (Err e) n x old new done kept h = rw kept h

-- a name that has a value has a place
pub place_of-known : {X : Type 0} (n : List ℕ) (ps : List (List ℕ × X)) → IsSome (value_of n ps) → place_of n (names_of ps) < length ps
place_of-known n [] h = cc
place_of-known n (p ∷ ps) h = by (bytes_eq n p.0) refl h (place_of-known n ps) where
  by : (t : Bool) → bytes_eq n p.0 ≡ t → IsSome (value_of n (p ∷ ps)) → (IsSome (value_of n ps) → place_of n (names_of ps) < length ps) → place_of n (names_of (p ∷ ps)) < length (p ∷ ps)
  by true q k below = rw q (omega arith)
  by false q k below = rw q (omega (arith, below (rw q at k)))

-- one more element, as it was read
take_read : {X : Type 0} (xs : List X) (i : ℕ) (x : X) → i < length xs → x ≡ get_or xs i x → take (i + 1) xs ≡ take i xs ++ x ∷ []
take_read xs i x h q = take_more xs i x h ∙ ap (λ y. take i xs ++ y ∷ []) (sym q)

-- one more pair whose name is not there yet
pub merged-more : {X : Type 0} (ps : List (List ℕ × X)) (i : ℕ) (x : List ℕ × X) → i < length ps → x ≡ get_or ps i x → i ≤ place_of x.0 (names_of (take i ps)) → merged (take i ps) ≡ take i ps
    → merged (take (i + 1) ps) ≡ take (i + 1) ps
merged-more ps i x h q new e =
    let long : length (take i ps) ≡ i = length-take-le i ps (omega arith) in
    let end = put-end x.0 x.1 (take i ps) (place_of x.0 (names_of (take i ps))) refl (omega (arith, long)) in
    rw (take_read ps i x h q) (put_all-more [] (take i ps) x ∙ ap (λ k. put x.0 x.1 k) e ∙ end)

-- the names so far, with one more
names_of-more : {X : Type 0} (ps : List (List ℕ × X)) (i : ℕ) (x : List ℕ × X) → i < length ps → x ≡ get_or ps i x → names_of (take (i + 1) ps) ≡ names_of (take i ps) ++ x.0 ∷ []
names_of-more ps i x h q = rw (take_read ps i x h q) (names_of-end (take i ps) x)

-- the names that are known by then
abbrev pub known_by : {X : Type 0} → List (List ℕ × X) → ℕ → List (List ℕ)
known_by ps i = add_names [] (names_of (take i ps))

-- one more name is known
pub known_by-more : {X : Type 0} (ps : List (List ℕ × X)) (i : ℕ) (x : List ℕ × X) → i < length ps → x ≡ get_or ps i x → known_by ps (i + 1) ≡ add_name x.0 (known_by ps i)
known_by-more ps i x h q = rw (names_of-more ps i x h q) (add_names-more [] (names_of (take i ps)) x.0)

-- one more place, before those of the rest
pub places_in-more : {X : Type 0} (ps : List (List ℕ × X)) (i : ℕ) (x : List ℕ × X) (found all : List ℕ) → i < length ps → x ≡ get_or ps i x
    → found ++ places_in (known_by ps i) (names_of (drop i ps)) ≡ all
    → (found ++ place_of x.0 (known_by ps i) ∷ []) ++ places_in (known_by ps (i + 1)) (names_of (drop (i + 1) ps)) ≡ all
places_in-more ps i x found all h q e = rw (append_assoc, known_by-more ps i x h q) (rw rest at e) where
  rest : drop i ps ≡ x ∷ drop (i + 1) ps
  rest = drop-cons ps i x h ∙ ap (λ y. y ∷ drop (suc i) ps) (sym q) ∙ ap (λ k. x ∷ drop k ps) (sym (add-one i))

-- the first of what is left
first_of-drop : (xs ys : List ℕ) (i x : ℕ) → drop i xs ≡ x ∷ ys → (i < length xs) × (get_or xs i 0 ≡ x) × (drop (i + 1) xs ≡ ys)
first_of-drop [] ys zero x h = cc
first_of-drop [] ys (suc i) x h = cc
first_of-drop (z ∷ xs) ys zero x h = (omega arith, cc, cc)
first_of-drop (z ∷ xs) ys (suc i) x h = let below = first_of-drop xs ys i x h in (omega (arith, below.0), below.1, rw add-one (rw add-one at below.2))

-- one more pair put at its place
pub placed-more : {X : Type 0} (kept rest after : List (List ℕ × X)) (n : List ℕ) (x : X) (places : List ℕ) (i : ℕ) → rest ≡ (n, x) ∷ after
    → drop i places ≡ places_in (names_of kept) (names_of rest)
    → (i < length places) × (get_or places i 0 ≡ place_of n (names_of kept)) × (drop (i + 1) places ≡ places_in (names_of (put n x kept)) (names_of after))
placed-more kept rest after n x places i e h =
    let first = first_of-drop places (places_in (add_name n (names_of kept)) (names_of after)) i (place_of n (names_of kept)) (rw e at h) in
    (first.0, first.1, first.2 ∙ ap (λ ns. places_in ns (names_of after)) (sym (names_of-put n x kept)))

-- where all names are new, the pairs stay as they are
pub merged-new : {X : Type 0} (ps : List (List ℕ × X)) → length (add_names [] (names_of ps)) ≡ length ps → merged ps ≡ ps
merged-new ps h = put_all-new [] ps (rw zero-add h)

-- names are distinct among merged pairs
pub AreDistinct-same : {X : Type 0} (ps qs : List (List ℕ × X)) → qs ≡ merged ps → AreDistinct (names_of qs)
AreDistinct-same ps qs e = rw e (AreDistinct-merged ps)

-- A map that has the places of names, where a name is looked up or added.
use Rattle.std.proofs.Common.{◌≡◌, ℕ, ◌+◌, ◌<◌, cond, Bool, true, false, subst, List, [], ◌∷◌, ◌++◌, length, length-append, refl, ap, sym, ◌∙◌, Option, Some, None, nat_lt, arith}
use Rattle.std.proofs.lemmas.Slice.Eq.{bytes_eq-Decides}
use Rattle.std.proofs.lemmas.Bool.Decides.{nat_tests}
use Rattle.std.specs.BTreeMap.{BTreeMap, get_by, btree_map_len}
use Rattle.std.specs.Cmp.Lexicographic.{slice_cmp}
use Rattle.std.specs.Map.{update}
use Rattle.std.specs.Ordering.{nat_cmp}
use Rattle.std.specs.Str.{bytes_eq}
use Rattle.sequences.specs.Known.{Knows, found}
use Rattle.sequences.specs.Places.{place_of, add_name}
use Rattle.sequences.proofs.PairLemmas.{place_of-le, add_name-known, add_name-new, bytes_eq-sym}
use denote.Ref.{Bor}

-- the places among names to which one that is new is added
place_of-added : (q n : List ℕ) (ns : List (List ℕ)) → place_of n ns ≡ length ns
    → place_of q (ns ++ n ∷ []) ≡ cond (bytes_eq n q) (length ns) (cond (nat_lt (place_of q ns) (length ns)) (place_of q ns) (length ns + 1))
place_of-added q n [] h = rw (bytes_eq-sym q n) (grind (arith, nat_tests))
place_of-added q n (m ∷ ms) h = grind (arith, nat_tests, bytes_eq-Decides q m, bytes_eq-Decides n m, bytes_eq-Decides n q, place_of-added q n ms)

-- what is found once a new name is added
found-added : (q n : List ℕ) (ns : List (List ℕ)) → place_of n ns ≡ length ns → found q (add_name n ns) ≡ cond (bytes_eq n q) (Some (length ns)) (found q ns)
found-added q n ns h =
    let e = place_of-added q n ns h in
    let long = length-append ns (n ∷ []) in rw (add_name-new n ns h) (grind (arith, nat_tests))

place_of-found : (n : List ℕ) (ns : List (List ℕ)) (i : ℕ) → found n ns ≡ Some i → i ≡ place_of n ns
place_of-found n ns i h = grind (arith, nat_tests)

found-lt : (n : List ℕ) (ns : List (List ℕ)) (i : ℕ) → found n ns ≡ Some i → place_of n ns < length ns
found-lt n ns i h = grind (arith, nat_tests)

place_of-past : (n : List ℕ) (ns : List (List ℕ)) → found n ns ≡ None → place_of n ns ≡ length ns
place_of-past n ns h = let le = place_of-le n ns in grind (arith, nat_tests)

-- a name that the map has
pub Knows-found : (known : BTreeMap (Bor (List ℕ)) ℕ) (n : List ℕ) (i : ℕ) (ns : List (List ℕ)) → get_by (λ k. slice_cmp nat_cmp n k.now) known ≡ Some i → Knows known ns
    → (i ≡ place_of n ns) × Knows known (add_name n ns)
Knows-found known n i ns e h =
    let at : found n ns ≡ Some i = sym (h.place n) ∙ e in
    (place_of-found n ns i at, rw (add_name-known n ns (found-lt n ns i at)) h)

-- a name that the map has not, once it is inserted
pub Knows-added : (old new : BTreeMap (Bor (List ℕ)) ℕ) (n : List ℕ) (i : ℕ) (ns : List (List ℕ)) → i ≡ btree_map_len old → get_by (λ k. slice_cmp nat_cmp n k.now) old ≡ None
    → btree_map_len new ≡ btree_map_len old + 1
    → ((q : List ℕ) → get_by (λ k. slice_cmp nat_cmp q k.now) new ≡ update bytes_eq (λ ds. get_by (λ k. slice_cmp nat_cmp ds k.now) old) n (Some i) q)
    → Knows old ns
    → (i ≡ place_of n ns) × Knows new (add_name n ns)
Knows-added old new n i ns size e long gets h =
    let at : found n ns ≡ None = sym (h.place n) ∙ e in
    let past : place_of n ns ≡ length ns = place_of-past n ns at in (
      size ∙ h.count ∙ sym past,
      record {
        place = λ q. let a = found-added q n ns past in let b = h.place q in let g = gets q in let k = h.count in cc;
        count = omega (arith, ap length (add_name-new n ns past), length-append ns (n ∷ []), h.count, long);
      },
    )

-- what stands where one value and then another were put
chosen : (t : Bool) (i k : ℕ) (old mid new : Option ℕ) → (t ≡ true → old ≡ Some i) → mid ≡ cond t (Some k) old → new ≡ cond t (Some i) mid → new ≡ old
chosen true i k old mid new e first second = second ∙ sym (e refl)
chosen false i k old mid new e first second = second ∙ first

same_name : (n q : List ℕ) → bytes_eq n q ≡ true → n ≡ q
same_name n q h = (bytes_eq-Decides n q).0 h

-- what stands at a name right after it was inserted
pub just_put : (old mid : BTreeMap (Bor (List ℕ)) ℕ) (n : List ℕ) (k : ℕ)
    → ((q : List ℕ) → get_by (λ k. slice_cmp nat_cmp q k.now) mid ≡ update bytes_eq (λ ds. get_by (λ k. slice_cmp nat_cmp ds k.now) old) n (Some k) q)
    → get_by (λ k. slice_cmp nat_cmp n k.now) mid ≡ Some k
just_put old mid n k first = first n ∙ ap (λ t. cond t (Some k) (get_by (λ k. slice_cmp nat_cmp n k.now) old)) ((bytes_eq-Decides n n).1 refl)

-- a name that the map has, once another place and then its own were inserted
pub Knows-again : (old mid new : BTreeMap (Bor (List ℕ)) ℕ) (n : List ℕ) (i k : ℕ) (ns : List (List ℕ)) → get_by (λ k. slice_cmp nat_cmp n k.now) old ≡ Some i
    → btree_map_len new ≡ btree_map_len old
    → ((q : List ℕ) → get_by (λ k. slice_cmp nat_cmp q k.now) mid ≡ update bytes_eq (λ ds. get_by (λ k. slice_cmp nat_cmp ds k.now) old) n (Some k) q)
    → ((q : List ℕ) → get_by (λ k. slice_cmp nat_cmp q k.now) new ≡ update bytes_eq (λ ds. get_by (λ k. slice_cmp nat_cmp ds k.now) mid) n (Some i) q)
    → Knows old ns
    → (i ≡ place_of n ns) × Knows new (add_name n ns)
Knows-again old mid new n i k ns e long first second h =
    let there = Knows-found old n i ns e h in (
      there.0,
      record {
        place = λ q. chosen (bytes_eq n q) i k (get_by (λ k. slice_cmp nat_cmp q k.now) old) (get_by (λ k. slice_cmp nat_cmp q k.now) mid) (get_by (λ k. slice_cmp nat_cmp q k.now) new)
            (λ t. subst (λ x. get_by (λ k. slice_cmp nat_cmp x k.now) old ≡ Some i) (same_name n q t) e) (first q) (second q) ∙ there.1.place q;
        count = long ∙ there.1.count;
      },
    )

-- what is no value is none
pub none_of : (o : Option ℕ) → ((i : ℕ) → o ≡ Some i → ⊥) → o ≡ None
none_of None h = refl
none_of (Some i) h = absurd (h i refl)

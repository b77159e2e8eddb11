-- Inputs that give nothing to a joined track are passed over.
use Rattle.std.proofs.Common.{◌≡◌, refl, sym, ap, ◌∙◌, get_or, ℕ, zero, suc, ◌+◌, ◌<◌, ◌≤◌, ◌-ℤ◌, ◌≤ℤ◌, pos, Bool, true, false, ltb-true, not, cond, Option, Some, None, List, [], ◌∷◌, ◌++◌, length, drop, arith}
use Rattle.std.specs.Prelude.{slice_get, is_none, nat_lt}
use Rattle.std.specs.List.Sorted.{IsNonDecreasing, IsPartitionPoint}
use Rattle.std.proofs.lemmas.Bool.Decides.{nat_tests}
use Rattle.std.proofs.lemmas.Int.{ints}
use Rattle.otio_model.specs.declared.compositions.ItemOf.{ItemOf}
use Rattle.otio_model.specs.declared.compositions.Listed.{Listed}
use Rattle.edits.specs.Cuts.{olds}
use Rattle.edits.specs.Children.{new_gap}
use Rattle.edits.specs.Edges.{added}
use Rattle.flat.specs.Joined.{Slot, own_items, pad, track_of}
use Rattle.flat.specs.Roots.{is_empty}
use Rattle.limits.proofs.IntegerTests.{above-int_lt, int_lt-false}
use Rattle.flat_stack.specs.declared.inputs.Part.{Part}
use Rattle.flat_stack.specs.Inputs.{children_from, list_of, piece}
use Rattle.flat_stack.specs.Givers.{first_from, is_long, owns, places}

-- ---- numbers of inputs rise

places_low : (test : Part → Bool) (i : ℕ) (ps : List Part) (k d : ℕ)
    → k < length (places test i ps) → i ≤ get_or (places test i ps) k d
places_low test i [] k d h = absurd (omega (arith, h))
places_low test i (p ∷ ps) k d h = of (test p) k (λ j. places_low test (suc i) ps j d) h
  where
    of : (b : Bool) (k : ℕ)
        → ((j : ℕ) → j < length (places test (suc i) ps) → suc i ≤ get_or (places test (suc i) ps) j d)
        → k < length (cond b (i ∷ places test (suc i) ps) (places test (suc i) ps))
        → i ≤ get_or (cond b (i ∷ places test (suc i) ps) (places test (suc i) ps)) k d
    of true zero f g = omega arith
    of true (suc k) f g = let low = f k (omega (arith, g)) in omega (arith, low)
    of false k f g = let low = f k g in omega (arith, low)

pub places_rise : (test : Part → Bool) (i : ℕ) (ps : List Part) → IsNonDecreasing (places test i ps)
places_rise test i [] j k d h g = absurd (omega (arith, g))
places_rise test i (p ∷ ps) j k d h g =
    of (test p) j k (λ a b. places_rise test (suc i) ps a b d) h g
  where
    rest : List ℕ
    rest = places test (suc i) ps

    of : (b : Bool) (j k : ℕ)
        → ((j k : ℕ) → j ≤ k → k < length rest → get_or rest j d ≤ get_or rest k d)
        → j ≤ k → k < length (cond b (i ∷ rest) rest)
        → get_or (cond b (i ∷ rest) rest) j d ≤ get_or (cond b (i ∷ rest) rest) k d
    of true zero zero f h g = omega arith
    of true zero (suc k) f h g =
        let low = places_low test (suc i) ps k d (omega (arith, g)) in omega (arith, low)
    of true (suc j) zero f h g = absurd (omega (arith, h))
    of true (suc j) (suc k) f h g = f j k (omega (arith, h)) (omega (arith, g))
    of false j k f h g = f j k h g

-- ---- the first that isn't before a number

pub first_low : (at all : ℕ) (xs : List ℕ) → at ≤ all → at ≤ first_from at all xs
first_low at all [] h = h
first_low at all (n ∷ xs) h = of (nat_lt n at) refl (first_low at all xs h)
  where
    of : (b : Bool) → nat_lt n at ≡ b → at ≤ first_from at all xs → at ≤ cond b (first_from at all xs) n
    of true e f = f
    of false e f = grind (arith, nat_tests)

-- a binary search finds it
pub first_found : (at all : ℕ) (xs : List ℕ) (from n : ℕ)
    → IsPartitionPoint (λ y. nat_lt y at ≡ true) (λ y. nat_lt y at ≡ false) xs from
    → slice_get xs from ≡ Some n → n ≡ first_from at all xs
first_found at all [] from n p e = absurd (none from e)
  where
    none : (i : ℕ) → slice_get {X = ℕ} [] i ≡ Some n → ⊥
    none zero e = cc e
    none (suc i) e = cc e
first_found at all (y ∷ xs) zero n p e =
    let is : y ≡ n = cc e in
    sym is ∙ ap (λ b. cond b (first_from at all xs) y) (sym (p.1 0 y (omega arith) (omega arith)))
first_found at all (y ∷ xs) (suc from) n p e =
    first_found at all xs from n (
      λ k d g h. p.0 (suc k) d (omega (arith, g)) (omega (arith, h)),
      λ k d g h. p.1 (suc k) d (omega (arith, g)) (omega (arith, h)),
    ) e
    ∙ ap (λ b. cond b (first_from at all xs) y) (sym (p.0 0 y (omega arith) (omega arith)))

pub first_none : (at all : ℕ) (xs : List ℕ) (from : ℕ)
    → IsPartitionPoint (λ y. nat_lt y at ≡ true) (λ y. nat_lt y at ≡ false) xs from
    → length xs ≤ from → all ≡ first_from at all xs
first_none at all [] from p h = refl
first_none at all (y ∷ xs) zero p h = absurd (omega (arith, h))
first_none at all (y ∷ xs) (suc from) p h =
    first_none at all xs from (
      λ k d g f. p.0 (suc k) d (omega (arith, g)) (omega (arith, f)),
      λ k d g f. p.1 (suc k) d (omega (arith, g)) (omega (arith, f)),
    ) (omega (arith, h))
    ∙ ap (λ b. cond b (first_from at all xs) y) (sym (p.0 0 y (omega arith) (omega arith)))

-- before it the test holds for no input
pub none_before : (test : Part → Bool) (at all i : ℕ) (ps : List Part) (j : ℕ) (p : Part)
    → slice_get ps j ≡ Some p → at ≤ i + j → i + j < first_from at all (places test i ps)
    → test p ≡ false
none_before test at all i [] j p e h g = absurd (none j e)
  where
    none : (j : ℕ) → slice_get {X = Part} [] j ≡ Some p → ⊥
    none zero e = cc e
    none (suc j) e = cc e
none_before test at all i (q ∷ ps) j p e h g =
    of (test q) refl (nat_lt i at) refl j (λ k. none_before test at all (suc i) ps k p) e h g
  where
    rest : List ℕ
    rest = places test (suc i) ps

    of : (b : Bool) → test q ≡ b → (c : Bool) → nat_lt i at ≡ c → (j : ℕ)
        → ((k : ℕ) → slice_get ps k ≡ Some p → at ≤ suc i + k
        → suc i + k < first_from at all rest → test p ≡ false)
        → slice_get (q ∷ ps) j ≡ Some p → at ≤ i + j
        → i + j < first_from at all (cond b (i ∷ rest) rest) → test p ≡ false
    of false t c l zero f e h g = ap test (sym (let is : q ≡ p = cc e in is)) ∙ t
    of false t c l (suc j) f e h g = f j e (omega (arith, h)) (omega (arith, g))
    of true t true l zero f e h g = let low = ltb-true i at l in absurd (omega (arith, h, low))
    of true t true l (suc j) f e h g =
        let first : first_from at all (i ∷ rest) ≡ first_from at all rest =
        ap (λ b. cond b (first_from at all rest) i) l in
        f j e (omega (arith, h)) (omega (arith, g, first))
    of true t false l j f e h g =
        let first : first_from at all (i ∷ rest) ≡ i = ap (λ b. cond b (first_from at all rest) i) l in
        absurd (omega (arith, g, first))

-- ---- what such an input gives

none_given : (o : Option (ItemOf Listed)) → not (is_none o) ≡ false → own_items o ≡ []
none_given None e = refl
none_given (Some x) e = absurd (cc e)

quiet : (s : Slot) (p : Part) (more : Bool) → owns s.kind s.index p ≡ false → is_long p ≡ false
    → piece s p more ≡ []
quiet s p more e f =
    ap (λ l. olds l ++ cond more (pad (p.stretch -ℤ added l)) [])
    (none_given (track_of s.kind s.index (list_of p)) e)
    ∙ of more
  where
    short : p.stretch ≤ℤ pos 0
    short = int_lt-false (pos 0) p.stretch f

    none : pad (p.stretch -ℤ added []) ≡ []
    none =
        ap (λ b. cond b (new_gap (p.stretch -ℤ added []) ∷ []) [])
        (above-int_lt (pos 0) (p.stretch -ℤ added []) (omega (arith, ints, short)))

    of : (more : Bool) → cond more (pad (p.stretch -ℤ added [])) [] ≡ []
    of true = none
    of false = refl

skipped : (s : Slot) (ps : List Part) (i j : ℕ) → i ≤ j
    → ((k : ℕ) (p : Part) (more : Bool) → i ≤ k → k < j → slice_get ps k ≡ Some p
    → piece s p more ≡ [])
    → children_from s (drop i ps) ≡ children_from s (drop j ps)
skipped s [] i j h f = none i ∙ sym (none j)
  where
    none : (i : ℕ) → children_from s (drop i []) ≡ []
    none zero = refl
    none (suc i) = refl
skipped s (p ∷ ps) zero zero h f = refl
skipped s (p ∷ ps) zero (suc j) h f =
    ap (λ z. z ++ children_from s ps) (f 0 p (not (is_empty ps)) (omega arith) (omega arith) refl)
    ∙ skipped s ps 0 j (omega arith)
    (λ k q more g l e. f (suc k) q more (omega arith) (omega (arith, l)) e)
skipped s (p ∷ ps) (suc i) zero h f = absurd (omega (arith, h))
skipped s (p ∷ ps) (suc i) (suc j) h f =
    skipped s ps i j (omega (arith, h))
    (λ k q more g l e. f (suc k) q more (omega (arith, g)) (omega (arith, l)) e)

-- up to the first that has the track or a length
pub passed : (s : Slot) (ps : List Part) (at own long next : ℕ) → at ≤ next → next ≤ own
    → next ≤ long → own ≡ first_from at (length ps) (places (owns s.kind s.index) 0 ps)
    → long ≡ first_from at (length ps) (places is_long 0 ps)
    → children_from s (drop at ps) ≡ children_from s (drop next ps)
passed s ps at own long next h a b e f =
    skipped s ps at next h
    (λ k p more g l there. quiet s p more
    (none_before (owns s.kind s.index) at (length ps) 0 ps k p there (omega (arith, g))
    (omega (arith, l, a, e)))
    (none_before is_long at (length ps) 0 ps k p there (omega (arith, g))
    (omega (arith, l, b, f))))

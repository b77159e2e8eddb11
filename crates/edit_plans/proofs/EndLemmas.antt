-- What stays of touched children at both ends of a zone.
use Rattle.std.proofs.Common.{◌≡◌, refl, sym, subst, ap, ap₂, ◌∙◌, ℕ, zero, suc, ◌+◌, ◌-◌}
use Rattle.std.proofs.Common.{◌<◌, ◌≤◌, ◌^◌, min}
use Rattle.std.proofs.Common.{ℤ, pos, ◌+ℤ◌, ◌-ℤ◌, ◌≤ℤ◌, ◌<ℤ◌, true, false, List, [], ◌∷◌, ◌++◌}
use Rattle.std.proofs.Common.{Some, take, drop, length, arith, ◌⊎◌, inl, inr, drop-drop}
use Rattle.std.specs.Prelude.{slice_get}
use Rattle.std.proofs.lemmas.Int.{ints}
use Rattle.std.proofs.lemmas.Bool.{cases_lt}
use Rattle.std.proofs.lemmas.List.{take-append-drop, take-take, drop-take, length-take-le}
use Rattle.std.proofs.lemmas.List.{length-drop}
use Rattle.otio_model.specs.declared.compositions.ItemOf.{ItemOf}
use Rattle.otio_model.specs.declared.compositions.Listed.{Listed}
use Rattle.otio_model.specs.Counts.{count}
use Rattle.otio_model.specs.Trees.{items_of}
use Rattle.otio_model.proofs.LengthLimits.{few_enough}
use Rattle.edits.specs.Children.{ticks}
use Rattle.edits.specs.Cuts.{back, front, strip}
use Rattle.edits.specs.Edges.{added}
use Rattle.edits.proofs.NextStarts.{added_low}
use Rattle.edits_law.proofs.Beside.{strip_append}
use Rattle.std.proofs.lemmas.Int.{by_lt_z}
use Rattle.std.specs.Prelude.{int_lt, int_le}
use Rattle.limits.proofs.IntegerTests.{below-int_lt as lt_yes, below-int_le as le_yes}
use Rattle.edits.specs.Children.{Old}
use Rattle.edits_law.proofs.Parted.{added_strip}
use Rattle.pieces.specs.Short.{AreCuttable}
use Rattle.pieces.proofs.StripLemmas.{short_together}
use Rattle.edit_plans.specs.Parts.{IsPassed}
use Rattle.edit_plans.specs.Touched.{AreEnded}
use Rattle.edit_plans.proofs.Further.{passed-next}
use Rattle.edit_plans.proofs.ZoneLemmas.{drop_faultless, short_all, take_faultless}

-- ---- a child of a stretch

in_front : {A : Type 0} (l : List A) (c n : ℕ) (x : A) → slice_get l n ≡ Some x → n < c
    → slice_get (take c l) n ≡ Some x
in_front l zero n x e h = absurd (omega (arith, h))
in_front [] (suc c) n x e h = e
in_front (y ∷ l) (suc c) zero x e h = e
in_front (y ∷ l) (suc c) (suc n) x e h = in_front l c n x e (omega (arith, h))

further_on : {A : Type 0} (l : List A) (at n k : ℕ) (x : A) → slice_get l k ≡ Some x → k ≡ at + n
    → slice_get (drop at l) n ≡ Some x
further_on l zero n k x e f =
    let same : k ≡ n = omega (arith, f) in subst (λ i. slice_get l i ≡ Some x) same e
further_on [] (suc at) n k x e f = absurd (cc e)
further_on (y ∷ l) (suc at) n k x e f =
    let same : k ≡ suc (at + n) = omega (arith, f) in
    let here : slice_get l (at + n) ≡ Some x = subst (λ i. slice_get (y ∷ l) i ≡ Some x) same e in
    further_on l at n (at + n) x here refl

pub in_stretch : {A : Type 0} (l : List A) (at c n : ℕ) (x : A) → slice_get l (at + n) ≡ Some x
    → n < c → slice_get (take c (drop at l)) n ≡ Some x
in_stretch l at c n x e h = in_front (drop at l) c n x (further_on l at n (at + n) x e refl) h

-- so many first ones are together not too long
pub passed_short : (l : Listed) (at c i : ℕ) (now : ℤ) → count l < 2 ^ 32
    → AreCuttable (items_of l) → at + c ≤ length (items_of l)
    → IsPassed (take c (drop at (items_of l))) i now → i < c
    → (pos 0 ≤ℤ now) × (now ≤ℤ pos 10000000000000000000000000000000000000)
passed_short l at c i now few h there p k =
    let xs = take c (drop at (items_of l)) in
    let s = take_faultless xs i
    (take_faultless (drop at (items_of l)) c (drop_faultless (items_of l) at h)) in
    let long = short_together (take i xs) (short_all _ s) in
    let low = added_low (take i xs) in
    let n = length-take-le i xs p.within in
    let fewer = few_enough l few in (
      omega (arith, ints, p.long, low),
      omega (arith, ints, p.long, long, n, k, there, fewer),
    )

-- ---- those that end before an instant

pub ended_here : (l : List (ItemOf Listed)) (t : ℤ) (n : ℕ) (at end : ℤ) (x : ItemOf Listed)
    → IsPassed l n at → (0 < n → at <ℤ t) → slice_get l n ≡ Some x → end ≡ at +ℤ ticks x
    → t ≤ℤ end → AreEnded l t n at
ended_here l t n at end x p early e f h =
    let more = passed-next l n (n + 1) at end x p e refl f in
    record {
      within = p.within;
      long = p.long;
      early = early;
      late = λ _. omega (arith, ints, h, more.long);
    }

pub ended_all : (l : List (ItemOf Listed)) (t : ℤ) (n : ℕ) (at : ℤ) → IsPassed l n at
    → (0 < n → at <ℤ t) → length l ≤ n → AreEnded l t n at
ended_all l t n at p early h = record {
  within = p.within;
  long = p.long;
  early = early;
  late = λ k. absurd (omega (arith, h, k));
}

-- what starts at t or later isn't in the front
front_of_part : (l r : List (ItemOf Listed)) (t : ℤ) → t ≤ℤ added l → front (l ++ r) t ≡ front l t
front_of_part [] [] t h = refl
front_of_part [] (x ∷ r) t h = let e : int_lt (pos 0) t ≡ false = grind (arith, ints) in rw e refl
front_of_part (x ∷ l) r t h = by_lt_z (pos 0) t
    (λ s. let e : int_lt (pos 0) t ≡ true = grind (arith, ints) in by_lt_z t (ticks x)
    (λ k. let f : int_le (ticks x) t ≡ false = grind (arith, ints) in rw (e, f) refl)
    (λ k. let f : int_le (ticks x) t ≡ true = grind (arith, ints) in
    let rest = front_of_part l r (t -ℤ ticks x) (omega (arith, ints)) in
    rw (e, f) (ap (λ m. Old x ∷ m) rest)))
    (λ s. let e : int_lt (pos 0) t ≡ false = grind (arith, ints) in rw e refl)

-- what ends before t isn't in the back
back_after_part : (l r : List (ItemOf Listed)) (t : ℤ) → added l <ℤ t
    → back (l ++ r) t ≡ back r (t -ℤ added l)
back_after_part [] r t h = ap (back r) (omega (arith, ints))
back_after_part (x ∷ l) r t h =
    let k = added_low l in
    let e : int_lt (pos 0) t ≡ true = lt_yes (pos 0) t (omega (arith, ints)) in
    let f : int_le (ticks x) t ≡ true = le_yes (ticks x) t (omega (arith, ints)) in
    rw (e, f) (back_after_part l r (t -ℤ ticks x) (omega (arith, ints))
    ∙ ap (back r) (omega (arith, ints)))

-- ---- the front of a zone comes of those and the next one, its back of all but those

front_of_first : (l : List (ItemOf Listed)) (a b t : ℤ) (m : ℕ) → t ≤ℤ added (take m l)
    → front (strip (take m l) a b) t ≡ front (strip l a b) t
front_of_first l a b t m h =
    let p = take m l in
    let q = drop m l in
    let long = added_strip p a b in
    sym (ap (λ k. front (strip k a b) t) (sym (take-append-drop m l))
    ∙ ap (λ k. front k t) (strip_append p q a b)
    ∙ front_of_part (strip p a b) (strip q (a -ℤ added p) (b -ℤ added p)) t
    (omega (arith, ints, h, long)))

take_whole : {A : Type 0} (l : List A) (m : ℕ) → length l ≤ m → take m l ≡ l
take_whole [] zero h = refl
take_whole [] (suc m) h = refl
take_whole (x ∷ l) zero h = absurd (omega (arith, h))
take_whole (x ∷ l) (suc m) h = ap (λ k. x ∷ k) (take_whole l m (omega (arith, h)))

pub front_near : (l : List (ItemOf Listed)) (a b t : ℤ) (n m : ℕ) (at : ℤ) → AreEnded l t n at
    → m ≡ min (length l) (n + 1) → front (strip (take m l) a b) t ≡ front (strip l a b) t
front_near l a b t n m at h e = by (cases_lt n (length l))
  where
    by : (n < length l) ⊎ (length l ≤ n) → front (strip (take m l) a b) t ≡ front (strip l a b) t
    by (inl k) = let same : m ≡ n + 1 = omega (arith, e, k) in
        front_of_first l a b t m (omega (arith, ints, h.late k, ap (λ i. added (take i l)) same))
    by (inr k) = ap (λ q. front (strip q a b) t) (take_whole l m (omega (arith, e, k)))

-- none is passed, or what is passed ends before the instant
past_end : (l r : List (ItemOf Listed)) (t : ℤ) → (l ≡ []) ⊎ (added l <ℤ t)
    → back (l ++ r) t ≡ back r (t -ℤ added l)
past_end l r t (inl e) =
    let none : added l ≡ pos 0 = ap added e in
    ap (λ k. back (k ++ r) t) e ∙ ap (back r) (omega (arith, ints, none))
past_end l r t (inr h) = back_after_part l r t h

none_or_early : (l : List (ItemOf Listed)) (t : ℤ) (n : ℕ) (at : ℤ) → AreEnded l t n at
    → (take n l ≡ []) ⊎ (added (take n l) <ℤ t)
none_or_early l t zero at h = inl (none l)
  where
    none : (q : List (ItemOf Listed)) → take zero q ≡ []
    none [] = refl
    none (x ∷ q) = refl
none_or_early l t (suc n) at h =
    let early = h.early (omega arith) in inr (omega (arith, ints, early, h.long))

pub back_late : (l : List (ItemOf Listed)) (a b t u v w : ℤ) (n : ℕ) (at : ℤ) → AreEnded l t n at
    → u ≡ a -ℤ at → v ≡ b -ℤ at → w ≡ t -ℤ at
    → back (strip (drop n l) u v) w ≡ back (strip l a b) t
back_late l a b t u v w n at h e f g =
    let p = take n l in
    let q = drop n l in
    let kept = strip p a b in
    let long = added_strip p a b in
    let early : (kept ≡ []) ⊎ (added kept <ℤ t) = elim (none_or_early l t n at h) [
      | inl z ↦ inl (ap (λ k. strip k a b) z)
      | inr z ↦ inr (omega (arith, ints, z, long))
    ] in
    let first : u ≡ a -ℤ added p = e ∙ ap (λ k. a -ℤ k) h.long in
    let last : v ≡ b -ℤ added p = f ∙ ap (λ k. b -ℤ k) h.long in
    let left : w ≡ t -ℤ added kept = omega (arith, ints, g, h.long, long) in
    sym (ap (λ k. back (strip k a b) t) (sym (take-append-drop n l))
    ∙ ap (λ k. back k t) (strip_append p q a b)
    ∙ past_end kept (strip q (a -ℤ added p) (b -ℤ added p)) t early
    ∙ ap₂ (λ x y. back (strip q x y) (t -ℤ added kept)) (sym first) (sym last)
    ∙ ap (back (strip q u v)) (sym left))

-- ---- the same for a stretch of a list, with each end by an equation

pub front_same : (l k : List (ItemOf Listed)) (at c m n : ℕ) (a b t u v w i : ℤ)
    → AreEnded (take c (drop at l)) t n i → m ≡ min c (n + 1) → at + c ≤ length l
    → k ≡ strip (take m (drop at l)) u v → t ≡ a → u ≡ a → v ≡ b → w ≡ a
    → front k w ≡ front (strip (take c (drop at l)) a b) a
front_same l k at c m n a b t u v w i h e there f et eu ev ew =
    let all = take c (drop at l) in
    let long : length all ≡ c =
    length-take-le c (drop at l) (omega (arith, there, length-drop at l)) in
    let few : m ≤ c = omega (arith, e) in
    ap (λ q. front q w) f
    ∙ ap₂ (λ x y. front (strip (take m (drop at l)) x y) w) eu ev
    ∙ ap (λ q. front (strip q a b) w) (sym (take-take m c (drop at l) few))
    ∙ ap (front (strip (take m all) a b)) (ew ∙ sym et)
    ∙ front_near all a b t n m i h (e ∙ ap (λ j. min j (n + 1)) (sym long))
    ∙ ap (front (strip all a b)) et

pub back_same : (l k : List (ItemOf Listed)) (at c n : ℕ) (a b t u v w i : ℤ)
    → AreEnded (take c (drop at l)) t n i → at + c ≤ length l
    → k ≡ strip (take (c - n) (drop (at + n) l)) u v → t ≡ b → u ≡ a -ℤ i → v ≡ b -ℤ i
    → w ≡ b -ℤ i → back k w ≡ back (strip (take c (drop at l)) a b) b
back_same l k at c n a b t u v w i h there f et eu ev ew =
    let all = take c (drop at l) in
    let long : length all ≡ c =
    length-take-le c (drop at l) (omega (arith, there, length-drop at l)) in
    let more : c ≡ n + (c - n) = omega (arith, h.within, long) in
    let rest : drop n all ≡ take (c - n) (drop (at + n) l) =
    ap (λ j. drop n (take j (drop at l))) more ∙ drop-take n (c - n) (drop at l)
    ∙ ap (take (c - n)) (drop-drop n at l) in
    let left : w ≡ t -ℤ i = ew ∙ ap (λ z. z -ℤ i) (sym et) in
    ap (λ q. back q w) f
    ∙ ap (λ q. back (strip q u v) w) (sym rest)
    ∙ back_late all a b t u v w n i h eu ev left
    ∙ ap (back (strip all a b)) et

-- how many end before an instant, and when
pub ended_bounds : (l : List (ItemOf Listed)) (at c n : ℕ) (t i : ℤ)
    → AreEnded (take c (drop at l)) t n i → at + c ≤ length l → pos 0 ≤ℤ t
    → (n ≤ c) × (pos 0 ≤ℤ i) × (i ≤ℤ t)
ended_bounds l at c n t i h there low =
    let all = take c (drop at l) in
    let long : length all ≡ c =
    length-take-le c (drop at l) (omega (arith, there, length-drop at l)) in
    let added_up = added_low (take n all) in (
      omega (arith, h.within, long),
      omega (arith, ints, h.long, added_up),
      by n refl,
    )
  where
    none : (q : List (ItemOf Listed)) → take zero q ≡ []
    none [] = refl
    none (x ∷ q) = refl

    by : (m : ℕ) → n ≡ m → i ≤ℤ t
    by zero e =
        let z : added (take n (take c (drop at l))) ≡ pos 0 =
        ap (λ j. added (take j (take c (drop at l)))) e ∙ ap added (none (take c (drop at l))) in
        omega (arith, ints, h.long, z, low)
    by (suc m) e = let early = h.early (omega (arith, e)) in omega (arith, ints, early)

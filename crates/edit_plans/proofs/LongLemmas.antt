-- How long lists are that have others between two cuts.
use Rattle.std.proofs.Common.{◌≡◌, refl, sym, ap, ap₂, ◌∙◌, ℤ, pos, ◌+ℤ◌, ◌-ℤ◌, ◌≤ℤ◌, ◌<ℤ◌}
use Rattle.std.proofs.Common.{List, [], ◌∷◌, ◌++◌, arith}
use Rattle.std.specs.Int.{int_max}
use Rattle.std.proofs.lemmas.Int.{ints, by_lt_z}
use Rattle.otio_model.specs.declared.compositions.ItemOf.{ItemOf}
use Rattle.otio_model.specs.declared.compositions.Listed.{Listed}
use Rattle.edits.specs.Children.{Child, ticks, child_ticks}
use Rattle.edits.specs.Cuts.{back, front, olds, put_between, strip}
use Rattle.edits.specs.Edges.{added}
use Rattle.edits.specs.Refusals.{long}
use Rattle.edits_law.proofs.Parted.{added_low, added_strip}
use Rattle.pieces.proofs.Tests.{lt_yes, lt_no, le_yes, le_no}

pub long_olds : (l : List (ItemOf Listed)) → long (olds l) ≡ added l
long_olds [] = refl
long_olds (x ∷ l) = ap (λ z. ticks x +ℤ z) (long_olds l)

sum_more : (a b c : ℤ) → a +ℤ (b +ℤ c) ≡ (a +ℤ b) +ℤ c
sum_more a b c = omega (arith, ints)

pub long_both : (l r : List Child) → long (l ++ r) ≡ long l +ℤ long r
long_both [] r = omega (arith, ints)
long_both (c ∷ l) r =
    ap (λ z. child_ticks c +ℤ z) (long_both l r) ∙ sum_more (child_ticks c) (long l) (long r)

-- a front is as long as it is cut to
pub long_front : (l : List (ItemOf Listed)) (t : ℤ) → pos 0 ≤ℤ t → long (front l t) ≡ t
long_front [] t h = by_lt_z (pos 0) t
    (λ s. rw (lt_yes (pos 0) t s) (omega (arith, ints)))
    (λ s. rw (lt_no (pos 0) t s) (omega (arith, ints, h, s)))
long_front (x ∷ l) t h = by_lt_z (pos 0) t
    (λ s. by_lt_z t (ticks x)
    (λ k. rw (lt_yes (pos 0) t s, le_no (ticks x) t k) (omega (arith, ints)))
    (λ k. let e = long_front l (t -ℤ ticks x) (omega (arith, ints, k)) in
    rw (lt_yes (pos 0) t s, le_yes (ticks x) t k) (omega (arith, ints, e))))
    (λ s. rw (lt_no (pos 0) t s) (omega (arith, ints, h, s)))

-- a back is what is left of the list, and nothing where the cut lies after it
pub long_back_within : (l : List (ItemOf Listed)) (t : ℤ) → pos 0 ≤ℤ t → t ≤ℤ added l
    → long (back l t) ≡ added l -ℤ t
long_back_within [] t h k = omega (arith, ints, h, k)
long_back_within (x ∷ l) t h k = by_lt_z (pos 0) t
    (λ s. by_lt_z t (ticks x)
    (λ i. let e = long_olds l in
    rw (lt_yes (pos 0) t s, le_no (ticks x) t i) (omega (arith, ints, e)))
    (λ i. let e = long_back_within l (t -ℤ ticks x) (omega (arith, ints, i))
    (omega (arith, ints, k)) in
    rw (lt_yes (pos 0) t s, le_yes (ticks x) t i) (omega (arith, ints, e))))
    (λ s. let e = long_olds l in rw (lt_no (pos 0) t s) (omega (arith, ints, h, s, e)))

pub long_back_past : (l : List (ItemOf Listed)) (t : ℤ) → added l ≤ℤ t → long (back l t) ≡ pos 0
long_back_past [] t k = refl
long_back_past (x ∷ l) t k =
    let low = added_low l in
    by_lt_z (pos 0) t
    (λ s. rw (lt_yes (pos 0) t s, le_yes (ticks x) t (omega (arith, ints, k, low)))
    (long_back_past l (t -ℤ ticks x) (omega (arith, ints, k))))
    (λ s. let e = long_olds l in rw (lt_no (pos 0) t s) (omega (arith, ints, k, s, low, e)))

max_first : (z : ℤ) → pos 0 ≤ℤ z → int_max (pos 0) z ≡ z
max_first z h = by_lt_z z (pos 0) (λ s. absurd (omega (arith, ints, h, s)))
    (λ s. rw (lt_no z (pos 0) s) refl)

max_none : (z : ℤ) → z <ℤ pos 0 → int_max (pos 0) z ≡ pos 0
max_none z h = rw (lt_yes z (pos 0) h) refl

pub long_back : (l : List (ItemOf Listed)) (t : ℤ) → pos 0 ≤ℤ t
    → long (back l t) ≡ int_max (pos 0) (added l -ℤ t)
long_back l t h = by_lt_z (added l) t
    (λ s. long_back_past l t (omega (arith, ints, s))
    ∙ sym (max_none (added l -ℤ t) (omega (arith, ints, s))))
    (λ s. long_back_within l t h s ∙ sym (max_first (added l -ℤ t) (omega (arith, ints, s))))

-- the front, what is put, and the back
pub long_put : (l : List (ItemOf Listed)) (a b : ℤ) (n : List Child) → pos 0 ≤ℤ a
    → long (put_between l a n b) ≡ (a +ℤ long n) +ℤ long (back l b)
long_put l a b n h =
    long_both (front l a) (n ++ back l b)
    ∙ ap₂ (λ y z. y +ℤ z) (long_front l a h) (long_both n (back l b))
    ∙ sum_more a (long n) (long (back l b))

pub long_between : (l : List (ItemOf Listed)) (a b : ℤ) (n : List Child) → pos 0 ≤ℤ a
    → pos 0 ≤ℤ b → long (put_between (strip l a b) a n b)
    ≡ (a +ℤ long n) +ℤ int_max (pos 0) (added l -ℤ b)
long_between l a b n h k =
    long_put (strip l a b) a b n h
    ∙ ap (λ z. (a +ℤ long n) +ℤ z) (long_back (strip l a b) b k
    ∙ ap (λ z. int_max (pos 0) (z -ℤ b)) (added_strip l a b))

-- the same where the zone ends within the list, and where it ends after it
pub long_within : (l : List (ItemOf Listed)) (a b m : ℤ) (n : List Child) → pos 0 ≤ℤ a
    → pos 0 ≤ℤ b → b ≤ℤ added l → long n ≡ m
    → long (put_between (strip l a b) a n b) ≡ (a +ℤ m) +ℤ (added l -ℤ b)
long_within l a b m n h k i e =
    long_between l a b n h k
    ∙ ap₂ (λ y z. (a +ℤ y) +ℤ z) e (max_first (added l -ℤ b) (omega (arith, ints, i)))

pub long_past : (l : List (ItemOf Listed)) (a b m : ℤ) (n : List Child) → pos 0 ≤ℤ a
    → pos 0 ≤ℤ b → added l ≤ℤ b → long n ≡ m
    → long (put_between (strip l a b) a n b) ≡ a +ℤ m
long_past l a b m n h k i e =
    let none : long (back (strip l a b) b) ≡ pos 0 =
    long_back_past (strip l a b) b (let f = added_strip l a b in omega (arith, ints, i, f)) in
    long_put (strip l a b) a b n h ∙ ap₂ (λ y z. (a +ℤ y) +ℤ z) e none ∙ no_more (a +ℤ m)
  where
    no_more : (z : ℤ) → z +ℤ pos 0 ≡ z
    no_more z = omega (arith, ints)

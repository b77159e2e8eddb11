-- Transitions near the ends of a track, found child by child.
use Rattle.std.proofs.Common.{◌≡◌, refl, sym, ap, ap₂, ◌∙◌, ◌⊎◌, inl, inr, ℕ, zero, suc, ◌+◌, ◌<◌, ◌≤◌, ◌==◌, ℤ, pos, ◌+ℤ◌, ◌-ℤ◌, ◌≤ℤ◌, ◌&&◌, ◌||◌, Bool, true, false, Option, Some, None, List, [], ◌∷◌, length, take, drop, arith}
use Rattle.std.specs.Prelude.{slice_get, int_lt, not}
use Rattle.std.proofs.lemmas.Bool.Decides.{nat_tests}
use Rattle.std.proofs.lemmas.Int.{ints}
use Rattle.otio_model.specs.declared.compositions.ItemOf.{ItemOf}
use Rattle.otio_model.specs.declared.compositions.Listed.{Listed}
use Rattle.coord.specs.Looks.{Overlap}
use Rattle.coord.specs.Sights.{overlap_of}
use Rattle.edits.specs.Children.{ticks}
use Rattle.edits.specs.Edges.{added}
use Rattle.flat.specs.Joined.{begins_early, ends_late}
use Rattle.flat.specs.Roots.{is_empty}
use Rattle.flat_stack.proofs.FirstLemmas.{below_or}
use Rattle.coord.proofs.Members.{same_some}
use Rattle.edits.proofs.NextStarts.{added_next}
use Rattle.flat_stack.specs.Blocking.{early_by, late_by, blocks_at, AreApartTo, IsCrossing, IsPassed}
use Rattle.std.proofs.lemmas.Bool.{or_from, or_left, or_right}

-- ---- what stands behind a child

pub added_behind : (l : List (ItemOf Listed)) (i : ℕ) → added (drop i l) ≡ added l -ℤ added (take i l)
added_behind [] zero = omega (arith, ints)
added_behind [] (suc i) = omega (arith, ints)
added_behind (x ∷ l) zero = omega (arith, ints)
added_behind (x ∷ l) (suc i) = let h = added_behind l i in omega (arith, ints, h)

pub rest_behind : (l : List (ItemOf Listed)) (i : ℕ) (at n total : ℤ) (x : ItemOf Listed)
    → slice_get l i ≡ Some x → at ≡ added (take i l) → n ≡ ticks x → total ≡ added l
    → total -ℤ (at +ℤ n) ≡ added (drop (suc i) l)
rest_behind l i at n total x e f g h =
    let k : added (take (suc i) l) ≡ added (take i l) +ℤ ticks x =
    ap (λ m. added (take m l)) (let z : suc i ≡ i + 1 = omega arith in z) ∙ added_next l i x e in
    let b = added_behind l (suc i) in omega (arith, ints, f, g, h, k, b)

not_zero : (n : ℕ) → 0 < n → (n == 0) ≡ false
not_zero n h = grind (arith, nat_tests)

none_behind : (l : List (ItemOf Listed)) (i n : ℕ) → n + i ≡ length l
    → (n == 0) ≡ is_empty (drop i l)
none_behind [] zero n e = let z : n ≡ 0 = omega (arith, e) in rw z refl
none_behind [] (suc i) n e = absurd (omega (arith, e))
none_behind (x ∷ l) zero n e =
    not_zero n (omega (arith, e))
none_behind (x ∷ l) (suc i) n e = none_behind l i n (omega (arith, e))

-- ---- both tests of a child

early_is : (is_first : Bool) (l : List (ItemOf Listed)) (i : ℕ) (at : ℤ) (o : Overlap)
    → at ≡ added (take i l)
    → (not is_first && early_by i at (Some o)) ≡ (not is_first && begins_early l i o)
early_is is_first l i at o e = ap (λ z. not is_first && ((i == 0) || int_lt z o.before)) e

late_is : (is_last : Bool) (l : List (ItemOf Listed)) (i n : ℕ) (rest : ℤ) (o : Overlap)
    → n + suc i ≡ length l → rest ≡ added (drop (suc i) l)
    → (not is_last && late_by n rest (Some o)) ≡ (not is_last && ends_late l i o)
late_is is_last l i n rest o e f =
    ap₂ (λ b z. not is_last && (b || int_lt z o.after)) (none_behind l (suc i) n e) f

never : (a : Bool) → (a && false) ≡ true → ⊥
never true e = cc e
never false e = cc e

-- what both tests of a child are told of
pub blocks_early : (is_first is_last c : Bool) (l : List (ItemOf Listed)) (i : ℕ) (at : ℤ)
    (p : Option Overlap) → at ≡ added (take i l) → c ≡ (not is_first && early_by i at p) → c ≡ true
    → blocks_at is_first is_last l i p ≡ true
blocks_early is_first is_last c l i at None e f g = absurd (never (not is_first) (sym f ∙ g))
blocks_early is_first is_last c l i at (Some o) e f g =
    or_left (not is_first && begins_early l i o) (not is_last && ends_late l i o)
    (sym (early_is is_first l i at o e) ∙ sym f ∙ g)

pub blocks_late : (is_first is_last c : Bool) (l : List (ItemOf Listed)) (i n : ℕ) (rest : ℤ)
    (p : Option Overlap) → n + suc i ≡ length l → rest ≡ added (drop (suc i) l)
    → c ≡ (not is_last && late_by n rest p) → c ≡ true
    → blocks_at is_first is_last l i p ≡ true
blocks_late is_first is_last c l i n rest None e f g h = absurd (never (not is_last) (sym g ∙ h))
blocks_late is_first is_last c l i n rest (Some o) e f g h =
    or_right (not is_first && begins_early l i o) (not is_last && ends_late l i o)
    (sym (late_is is_last l i n rest o e f) ∙ sym g ∙ h)

pub blocks_not : (is_first is_last c d : Bool) (l : List (ItemOf Listed)) (i n : ℕ) (at rest : ℤ)
    (p : Option Overlap) → at ≡ added (take i l) → c ≡ (not is_first && early_by i at p)
    → c ≡ false → n + suc i ≡ length l → rest ≡ added (drop (suc i) l)
    → d ≡ (not is_last && late_by n rest p) → d ≡ false
    → blocks_at is_first is_last l i p ≡ false
blocks_not is_first is_last c d l i n at rest None e f g h k m q = refl
blocks_not is_first is_last c d l i n at rest (Some o) e f g h k m q =
    or_from (not is_first && begins_early l i o) (not is_last && ends_late l i o)
    (sym (early_is is_first l i at o e) ∙ sym f ∙ g)
    (sym (late_is is_last l i n rest o h k) ∙ sym m ∙ q)

-- ---- the loop over a track's children

pub passed_first : (is_first is_last : Bool) (l : List (ItemOf Listed))
    → IsPassed is_first is_last l 0 (pos 0)
passed_first is_first is_last l = record {
  apart = λ i y h. absurd (omega (arith, h));
  start = refl;
  low = omega (arith, ints);
  high = omega (arith, ints);
}

pub passed_more : (is_first is_last : Bool) (l : List (ItemOf Listed)) (i : ℕ) (at now n : ℤ)
    (x : ItemOf Listed) → IsPassed is_first is_last l i at → slice_get l i ≡ Some x
    → blocks_at is_first is_last l i (overlap_of x) ≡ false → n ≡ ticks x → pos 0 ≤ℤ n
    → n ≤ℤ pos 705600000000000000000000 → now ≡ at +ℤ n
    → IsPassed is_first is_last l (i + 1) now
passed_more is_first is_last l i at now n x p e b g low high k = record {
  apart = λ j y less m. of j y (below_or j i less) m;
  start = let s = p.start in let t = added_next l i x e in omega (arith, ints, s, t, g, k);
  low = omega (arith, ints, p.low, low, k);
  high = omega (arith, ints, p.high, high, k);
}
  where
    of : (j : ℕ) (y : ItemOf Listed) → (j < i) ⊎ (j ≡ i) → slice_get l j ≡ Some y
        → blocks_at is_first is_last l j (overlap_of y) ≡ false
    of j y (inl less) m = p.apart j y less m
    of j y (inr same) m =
        let is : x ≡ y = same_some x y (sym e ∙ ap (slice_get l) (sym same) ∙ m) in
        ap (λ z. blocks_at is_first is_last l z (overlap_of y)) same
        ∙ ap (λ (z : ItemOf Listed). blocks_at is_first is_last l i (overlap_of z)) (sym is) ∙ b

pub crossing_at : (is_first is_last : Bool) (l : List (ItemOf Listed)) (i : ℕ) (at : ℤ)
    (x : ItemOf Listed) → IsPassed is_first is_last l i at → slice_get l i ≡ Some x
    → blocks_at is_first is_last l i (overlap_of x) ≡ true → IsCrossing is_first is_last l i
crossing_at is_first is_last l i at x p e b =
    record { item = x; there = e; blocks = b; before = p.apart }

pub all_apart : (is_first is_last : Bool) (l : List (ItemOf Listed)) (i : ℕ) (at : ℤ)
    → IsPassed is_first is_last l i at → length l ≤ i → AreApartTo is_first is_last l (length l)
all_apart is_first is_last l i at p h = λ j y less m. p.apart j y (omega (arith, h, less)) m

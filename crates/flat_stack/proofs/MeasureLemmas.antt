-- Sums and greatest lengths, as children keep them and as lists have them.
use Rattle.std.proofs.Common.{◌≡◌, refl, sym, ap, ◌∙◌, ℕ, zero, suc, ◌+◌, ◌-◌, ◌*◌, ◌<◌, ◌≤◌, ◌^◌, ℤ, pos, ◌+ℤ◌, ◌≤ℤ◌, Option, Some, None, List, [], ◌∷◌, length, map, max, arith}
use Rattle.std.proofs.lemmas.Int.{ints}
use Rattle.std.proofs.Math.Nat.{div-mul-le_self}
use Rattle.otio_model.specs.declared.compositions.ItemOf.{ItemOf}
use Rattle.otio_model.specs.declared.compositions.Listed.{Listed}
use Rattle.otio_model.specs.Counts.{count}
use Rattle.otio_model.specs.Trees.{items_of}
use Rattle.otio_model.specs.Lengths.{lengths, or_zero}
use Rattle.otio_model.specs.Lengths as own
use Rattle.otio_model.specs.Sums.{greatest}
use Rattle.otio_model.proofs.LengthLimits.{few_enough}
use Rattle.coord.specs.Sights.{sight, lengths_seen}
use Rattle.coord.proofs.SightLemmas.{sights-items, seen_lengths}
use Rattle.edits.specs.Children.{ticks}
use Rattle.edits.specs.Edges.{added}
use Rattle.flat.specs.Joined.{longest_root, rounded_up}
use Rattle.pieces.specs.Short.{AreCuttable}
use Rattle.pieces.proofs.Faultless.{faultless_is_short}

-- the lengths of children, as they are seen
lengths_are : (l : Listed) → lengths l ≡ lengths_seen (map sight (items_of l))
lengths_are l = sym (seen_lengths l) ∙ ap lengths_seen (sights-items l)

added_one : (o : Option ℕ) (l : List (Option ℕ)) (a : ℤ) → pos (own.added l) ≡ a
    → pos (own.added (o ∷ l)) ≡ pos (or_zero o) +ℤ a
added_one None l a h = omega (arith, ints, h)
added_one (Some n) l a h = omega (arith, ints, h)

added_are : (l : List (ItemOf Listed)) → pos (own.added (lengths_seen (map sight l))) ≡ added l
added_are [] = refl
added_are (x ∷ l) =
    added_one (sight x).length (lengths_seen (map sight l)) (added l) (added_are l)

greatest_one : (o : Option ℕ) (l : List (Option ℕ)) (a : ℕ) → greatest l ≡ a
    → greatest (o ∷ l) ≡ max (or_zero o) a
greatest_one None l a h = omega (arith, h)
greatest_one (Some n) l a h = omega (arith, h)

greatest_are : (l : List (ItemOf Listed)) → greatest (lengths_seen (map sight l)) ≡ longest_root l
greatest_are [] = refl
greatest_are (x ∷ l) =
    greatest_one (sight x).length (lengths_seen (map sight l)) (longest_root l) (greatest_are l)

-- each is at most a million seconds long
short_first : (x : ItemOf Listed) (l : List (ItemOf Listed)) → AreCuttable (x ∷ l)
    → ticks x ≤ℤ pos 705600000000000000000000
short_first x l c = let s = faultless_is_short x (c zero x refl) in s.short

rest_cuttable : (x : ItemOf Listed) (l : List (ItemOf Listed)) → AreCuttable (x ∷ l) → AreCuttable l
rest_cuttable x l c i y e = c (suc i) y e

added_high : (l : List (ItemOf Listed)) → AreCuttable l
    → added l ≤ℤ pos (length l * 705600000000000000000000)
added_high [] c = omega (arith, ints)
added_high (x ∷ l) c =
    let h = short_first x l c in
    let k = added_high l (rest_cuttable x l c) in omega (arith, ints, h, k)

longest_high : (l : List (ItemOf Listed)) → AreCuttable l
    → longest_root l ≤ 705600000000000000000000
longest_high [] c = omega arith
longest_high (x ∷ l) c =
    let h = short_first x l c in
    let k = longest_high l (rest_cuttable x l c) in omega (arith, ints, h, k)

-- ---- what a call is told of

pub sum_value : (l : Listed) (n : ℕ) → n ≡ own.added (lengths l) → pos n ≡ added (items_of l)
sum_value l n e = ap pos (e ∙ ap own.added (lengths_are l)) ∙ added_are (items_of l)

pub sum_high : (l : Listed) (n : ℕ) → count l < 2 ^ 32 → AreCuttable (items_of l)
    → n ≡ own.added (lengths l) → n ≤ 10000000000000000000000000000000000
sum_high l n few c e =
    let k = few_enough l few in
    let h = added_high (items_of l) c in
    let v = sum_value l n e in omega (arith, ints, k, h, v)

pub ruleset sums = (sum_value, sum_high)

pub longest_value : (l : Listed) (n : ℕ) → n ≡ greatest (lengths l) → n ≡ longest_root (items_of l)
longest_value l n e = e ∙ ap greatest (lengths_are l) ∙ greatest_are (items_of l)

pub longest_most : (l : Listed) (n : ℕ) → AreCuttable (items_of l) → n ≡ greatest (lengths l)
    → n ≤ 705600000000000000000000
longest_most l n c e =
    let v = longest_value l n e in let h = longest_high (items_of l) c in omega (arith, v, h)

pub ruleset longests = (longest_value, longest_most)

-- up to whole frames, no more than a frame is added
pub rounded_high : (f n : ℕ) → 0 < f → f ≤ 705600000000000000 → n ≤ 705600000000000000000000
    → rounded_up f n ≤ 1000000000000000000000000
rounded_high f n p h k =
    let m = div-mul-le_self (n + (f - 1)) f in omega (arith, p, h, k, m)

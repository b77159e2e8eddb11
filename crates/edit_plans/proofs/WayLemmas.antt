-- Lengths with another one at an index, their sum and their greatest; items that are too long.
use Rattle.std.proofs.Common.{◌≡◌, refl, sym, ap, ◌∙◌, ℕ, zero, suc, ◌+◌, ◌<◌, ◌≤◌, max, Bool}
use Rattle.std.proofs.Common.{true, false, List, [], ◌∷◌, Option, Some, None, length, map, take}
use Rattle.std.proofs.Common.{drop, slice_get, arith}
use Rattle.std.specs.Prelude.{option_map}
use Rattle.std.proofs.lemmas.List.{length-map}
use Rattle.std.proofs.lemmas.Option.{slice_get-map}
use Rattle.otio_model.specs.declared.compositions.ItemOf.{ItemOf}
use Rattle.otio_model.specs.declared.compositions.Listed.{Listed}
use Rattle.otio_model.specs.Lengths.{added, length_of, lengths, or_zero}
use Rattle.otio_model.specs.Sums.{greatest}
use Rattle.otio_model.specs.Trees.{items_of}
use Rattle.otio_model.proofs.Adding.{lengths-listed}
use Rattle.otio_model.proofs.Views.{listed-items}
use Rattle.coord.specs.Soundness.{fault_of}
use Rattle.coord.proofs.Members.{next, none_left}
use Rattle.edit_plans.specs.Ways.{has_long, is_long_fault, with_ticks}

-- ---- items that are too long

pub long_here : (l : List (ItemOf Listed)) (i : ℕ) (x : ItemOf Listed) (b : Bool)
    → has_long l ≡ has_long (drop i l) → slice_get l i ≡ Some x → b ≡ is_long_fault (fault_of x)
    → b ≡ true → true ≡ has_long l
long_here l i x b f e g h =
    let n : drop i l ≡ x ∷ drop (i + 1) l = next l i x e in
    let t : is_long_fault (fault_of x) ≡ true = sym g ∙ h in
    let k : has_long (x ∷ drop (i + 1) l) ≡ true = rw t refl in
    sym (f ∙ ap has_long n ∙ k)

pub long_next : (l : List (ItemOf Listed)) (i : ℕ) (x : ItemOf Listed) (b : Bool)
    → has_long l ≡ has_long (drop i l) → slice_get l i ≡ Some x → b ≡ is_long_fault (fault_of x)
    → b ≡ false → has_long l ≡ has_long (drop (i + 1) l)
long_next l i x b f e g h =
    let n : drop i l ≡ x ∷ drop (i + 1) l = next l i x e in
    let t : is_long_fault (fault_of x) ≡ false = sym g ∙ h in
    let k : has_long (x ∷ drop (i + 1) l) ≡ has_long (drop (i + 1) l) = rw t refl in
    f ∙ ap has_long n ∙ k

pub long_none : (l : List (ItemOf Listed)) (i : ℕ) → length l ≤ i → has_long l ≡ has_long (drop i l)
    → false ≡ has_long l
long_none l i h f = sym (f ∙ ap has_long (none_left l i h))

-- ---- lengths

pub lengths_map : (l : Listed) → lengths l ≡ map length_of (items_of l)
lengths_map l = sym (ap lengths (listed-items l)) ∙ lengths-listed (items_of l)

-- the length of a child
pub length_got : (l : Listed) (i : ℕ) (x : ItemOf Listed) → slice_get (items_of l) i ≡ Some x
    → slice_get (lengths l) i ≡ Some (length_of x)
length_got l i x e = ap (λ ns. slice_get ns i) (lengths_map l)
    ∙ slice_get-map length_of (items_of l) i ∙ ap (option_map length_of) e

-- ---- sums

sum_more : (ns : List (Option ℕ)) (i n : ℕ) (o : Option ℕ) → slice_get ns i ≡ Some o
    → added (with_ticks i n ns) + or_zero o ≡ added ns + n
sum_more [] zero n o e = absurd (cc e)
sum_more [] (suc i) n o e = absurd (cc e)
sum_more (None ∷ ns) zero n o e = let same : None ≡ o = cc e in let k : 0 ≡ or_zero o =
    ap or_zero same in omega (arith, k)
sum_more ((Some m) ∷ ns) zero n o e = let same : Some m ≡ o = cc e in let k : m ≡ or_zero o =
    ap or_zero same in omega (arith, k)
sum_more (None ∷ ns) (suc i) n o e = sum_more ns i n o e
sum_more ((Some m) ∷ ns) (suc i) n o e = let k = sum_more ns i n o e in omega (arith, k)

pub old_within : (ns : List (Option ℕ)) (i : ℕ) (o : Option ℕ) → slice_get ns i ≡ Some o
    → or_zero o ≤ added ns
old_within [] zero o e = absurd (cc e)
old_within [] (suc i) o e = absurd (cc e)
old_within (None ∷ ns) zero o e = let same : None ≡ o = cc e in let k : 0 ≡ or_zero o =
    ap or_zero same in omega (arith, k)
old_within ((Some m) ∷ ns) zero o e = let same : Some m ≡ o = cc e in let k : m ≡ or_zero o =
    ap or_zero same in omega (arith, k)
old_within (None ∷ ns) (suc i) o e = old_within ns i o e
old_within ((Some m) ∷ ns) (suc i) o e = let k = old_within ns i o e in omega (arith, k)

pub sum_is : (l : Listed) (i n : ℕ) (x : ItemOf Listed) → slice_get (items_of l) i ≡ Some x
    → added (with_ticks i n (lengths l)) + or_zero (length_of x) ≡ added (lengths l) + n
sum_is l i n x e = sum_more (lengths l) i n (length_of x) (length_got l i x e)

pub child_within : (l : Listed) (i : ℕ) (x : ItemOf Listed) → slice_get (items_of l) i ≡ Some x
    → or_zero (length_of x) ≤ added (lengths l)
child_within l i x e = old_within (lengths l) i (length_of x) (length_got l i x e)

-- ---- the greatest

greatest_with : (ns : List (Option ℕ)) (i n : ℕ) → i < length ns
    → greatest (with_ticks i n ns) ≡ max (max (greatest (take i ns)) (greatest (drop (suc i) ns))) n
greatest_with [] zero n h = absurd (omega (arith, h))
greatest_with [] (suc i) n h = absurd (omega (arith, h))
greatest_with (o ∷ ns) zero n h = omega arith
greatest_with (None ∷ ns) (suc i) n h = greatest_with ns i n (omega (arith, h))
greatest_with ((Some m) ∷ ns) (suc i) n h =
    let k = greatest_with ns i n (omega (arith, h)) in omega (arith, k)

-- of the lengths next to one, and of another one in its place
pub longest_is : (l : Listed) (i n a : ℕ) → i < length (items_of l)
    → a ≡ max (greatest (take i (lengths l))) (greatest (drop (i + 1) (lengths l)))
    → max a n ≡ greatest (with_ticks i n (lengths l))
longest_is l i n a h e =
    let k = ap length (lengths_map l) ∙ length-map (items_of l) length_of in
    let more : i + 1 ≡ suc i = omega arith in
    ap (λ m. max m n)
    (e ∙ ap (λ j. max (greatest (take i (lengths l))) (greatest (drop j (lengths l)))) more)
    ∙ sym (greatest_with (lengths l) i n (omega (arith, h, k)))

-- How long a list with others in it is, and how many items there are then.
use Rattle.std.proofs.Common.{◌≡◌, sym, ap, ◌∙◌, ℕ, ◌+◌, ◌-◌, ◌<◌, ◌≤◌, ◌^◌, List, [], ◌++◌}
use Rattle.std.proofs.Common.{Option, Some, take, drop, arith}
use Rattle.std.proofs.lemmas.List.{take-append-drop}
use Rattle.std.proofs.Math.Seq.{take-add}
use Rattle.otio_model.specs.declared.compositions.ItemOf.{ItemOf}
use Rattle.otio_model.specs.declared.compositions.Listed.{Listed}
use Rattle.otio_model.specs.Counts.{count, counts_by}
use Rattle.otio_model.specs.Falls.{count-listed, counts-append}
use Rattle.otio_model.specs.Edits.{list_at, replaced, with_at}
use Rattle.otio_model.specs.Kept.{capped_count}
use Rattle.otio_model.specs.Lengths.{added, lengths}
use Rattle.otio_model.specs.Sums.{capped}
use Rattle.otio_model.specs.Trees.{items_of, listed}
use Rattle.otio_model.proofs.LengthLimits.{short_enough}
use Rattle.otio_model.proofs.Views.{listed-items}
use Rattle.edits_law.proofs.Anywhere.{count_at}
use Rattle.edit_plans.specs.Amounts.{amount_in, ticks_in}
use Rattle.edit_plans.proofs.AmountLemmas.{amounts_by, ticks-append}
use Rattle.edit_plans.proofs.WayLemmas.{lengths_map}

-- a list in three parts
parts : (at n : ℕ) (l : List (ItemOf Listed)) → (take at l ++ take n (drop at l)) ++ drop (at + n) l
    ≡ l
parts at n l = ap (λ k. k ++ drop (at + n) l) (sym (take-add at n l)) ∙ take-append-drop (at + n) l

all_ticks : (at n : ℕ) (l : List (ItemOf Listed)) → ticks_in l
    ≡ (ticks_in (take at l) + ticks_in (take n (drop at l))) + ticks_in (drop (at + n) l)
all_ticks at n l =
    ap ticks_in (sym (parts at n l)) ∙ ticks-append (take at l ++ take n (drop at l))
    (drop (at + n) l)
    ∙ ap (λ k. k + ticks_in (drop (at + n) l)) (ticks-append (take at l) (take n (drop at l)))

new_ticks : (at n : ℕ) (put l : List (ItemOf Listed))
    → ticks_in (replaced at n put l) ≡ ticks_in (take at l)
    + (ticks_in put + ticks_in (drop (at + n) l))
new_ticks at n put l = ticks-append (take at l) (put ++ drop (at + n) l)
    ∙ ap (λ k. ticks_in (take at l) + k) (ticks-append put (drop (at + n) l))

all_items : (at n : ℕ) (l : List (ItemOf Listed)) → counts_by count l
    ≡ (counts_by count (take at l) + counts_by count (take n (drop at l)))
    + counts_by count (drop (at + n) l)
all_items at n l =
    ap (counts_by count) (sym (parts at n l)) ∙ counts-append (take at l ++ take n (drop at l))
    (drop (at + n) l)
    ∙ ap (λ k. k + counts_by count (drop (at + n) l))
    (counts-append (take at l) (take n (drop at l)))

new_items : (at n : ℕ) (put l : List (ItemOf Listed))
    → counts_by count (replaced at n put l) ≡ counts_by count (take at l)
    + (counts_by count put + counts_by count (drop (at + n) l))
new_items at n put l = counts-append (take at l) (put ++ drop (at + n) l)
    ∙ ap (λ k. counts_by count (take at l) + k) (counts-append put (drop (at + n) l))

-- arithmetic alone
gone_ticks : (all a g b gone : ℕ) → all ≡ (a + g) + b → all < 2 ^ 127 → gone ≡ capped g → gone ≤ all
gone_ticks all a g b gone e h f = omega (arith, e, h, f)

sum_ticks : (all a g b p new gone come r : ℕ) → all ≡ (a + g) + b → all < 2 ^ 127
    → new ≡ a + (p + b) → gone ≡ capped g → come ≡ capped p → r ≡ capped ((all - gone) + come)
    → r ≡ capped new
sum_ticks all a g b p new gone come r e h f i j k = omega (arith, e, h, f, i, j, k)

gone_items : (all old a g b gone : ℕ) → old ≡ (a + g) + b → old ≤ all → all < 2 ^ 32
    → gone ≡ capped_count g → gone ≤ all
gone_items all old a g b gone e k h f = omega (arith, e, k, h, f)

sum_items : (all old a g b p put new gone come r : ℕ) → old ≡ (a + g) + b → old ≤ all → all < 2 ^ 32
    → put ≡ a + (p + b) → new + old ≡ all + put → gone ≡ capped_count g → come ≡ capped_count p
    → r ≡ capped_count ((all - gone) + come) → r ≡ capped_count new
sum_items all old a g b p put new gone come r e d h f q i j k =
    omega (arith, e, d, h, f, q, i, j, k)

-- ---- the list there

pub one_list : {o : Option Listed} (c l : Listed) → o ≡ Some c → o ≡ Some l → c ≡ l
one_list c l e f = same (sym e ∙ f)
  where
    same : {x y : Listed} → Some x ≡ Some y → x ≡ y
    same e = cc e

-- ---- lengths

ticks_whole : (c : Listed) (all : ℕ) → count c < 2 ^ 32 → all ≡ added (lengths c)
    → all ≡ ticks_in (items_of c)
ticks_whole c all h e = e ∙ ap added (lengths_map c)

ticks_short : (c : Listed) (all : ℕ) → count c < 2 ^ 32 → all ≡ added (lengths c) → all < 2 ^ 127
ticks_short c all h e = let k = short_enough c h in omega (arith, e, k)

pub ticks_gone : (c : Listed) (at n all gone : ℕ) → count c < 2 ^ 32 → all ≡ added (lengths c)
    → gone ≡ capped (ticks_in (take n (drop at (items_of c)))) → gone ≤ all
ticks_gone c at n all gone h e f = gone_ticks all _ _ _ gone
    (ticks_whole c all h e ∙ all_ticks at n (items_of c)) (ticks_short c all h e) f

pub ticks_then : (c : Listed) (at n all gone come r : ℕ) (put : List (ItemOf Listed))
    → count c < 2 ^ 32 → all ≡ added (lengths c) → gone
    ≡ capped (ticks_in (take n (drop at (items_of c)))) → come ≡ capped (ticks_in put)
    → r ≡ capped ((all - gone) + come) → r ≡ capped (ticks_in (replaced at n put (items_of c)))
ticks_then c at n all gone come r put h e f g k =
    sum_ticks all _ _ _ _ (ticks_in (replaced at n put (items_of c))) gone come r
    (ticks_whole c all h e ∙ all_ticks at n (items_of c)) (ticks_short c all h e)
    (new_ticks at n put (items_of c)) f g k

-- ---- counts

count_items : (l : Listed) → count l ≡ counts_by count (items_of l)
count_items l = sym (ap count (listed-items l)) ∙ count-listed (items_of l)

below_all : (place : List ℕ) (l c : Listed) → list_at place l ≡ Some c → count c ≤ count l
below_all place l c e =
    let k = count_at place (listed []) l c e in
    let n : count (listed []) ≡ 0 = count-listed [] in
    omega (arith, k, n)

all_whole : (l : Listed) (all : ℕ) → count l < 2 ^ 32 → all ≡ capped_count (count l) → all ≡ count l
all_whole l all h e = omega (arith, h, e)

pub items_gone : (place : List ℕ) (l c : Listed) (at n all gone : ℕ) → list_at place l ≡ Some c
    → count l < 2 ^ 32 → all ≡ capped_count (count l)
    → gone ≡ capped_count (counts_by count (take n (drop at (items_of c)))) → gone ≤ all
items_gone place l c at n all gone t h e f =
    let w = all_whole l all h e in
    let b = below_all place l c t in
    gone_items all (count c) _ _ _ gone (count_items c ∙ all_items at n (items_of c))
    (omega (arith, w, b)) (omega (arith, w, h)) f

pub items_then : (place : List ℕ) (l c : Listed) (at n all gone come r : ℕ)
    (put : List (ItemOf Listed)) → list_at place l ≡ Some c → count l < 2 ^ 32
    → all ≡ capped_count (count l)
    → gone ≡ capped_count (counts_by count (take n (drop at (items_of c))))
    → come ≡ capped_count (counts_by count put) → r ≡ capped_count ((all - gone) + come)
    → r ≡ capped_count (count (with_at place (listed (replaced at n put (items_of c))) l))
items_then place l c at n all gone come r put t h e f g k =
    let w = all_whole l all h e in
    let b = below_all place l c t in
    let m = count_at place (listed (replaced at n put (items_of c))) l c t in
    let q = count-listed (replaced at n put (items_of c)) in
    sum_items all (count c) _ _ _ _ (count (listed (replaced at n put (items_of c))))
    (count (with_at place (listed (replaced at n put (items_of c))) l)) gone come r
    (count_items c ∙ all_items at n (items_of c)) (omega (arith, w, b)) (omega (arith, w, h))
    (q ∙ new_items at n put (items_of c)) (omega (arith, m, w)) f g k

-- what all children come to
pub whole_is : (c : Listed) (t n : ℕ) → count c < 2 ^ 32 → t ≡ added (lengths c)
    → n ≡ capped_count (count c) → record { ticks = t; items = n } ≡ amount_in (items_of c)
whole_is c t n few e f =
    let whole = ticks_whole c t few e in
    let short = ticks_short c t few e in
    amounts_by (record { ticks = t; items = n }) (amount_in (items_of c))
    (omega (arith, whole, short))
    (f ∙ ap capped_count (ap count (sym (listed-items c)) ∙ count-listed (items_of c)))

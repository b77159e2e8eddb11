-- What lists of items come to, with one item more.
use Rattle.std.proofs.Common.{◌≡◌, refl, sym, ap, ◌∙◌, ℕ, zero, suc, ◌+◌, ◌≤◌, List, [], ◌∷◌}
use Rattle.std.proofs.Common.{◌++◌, Option, Some, None, length, map, take, drop, slice_get, arith}
use Rattle.otio_model.specs.declared.compositions.ItemOf.{ItemOf}
use Rattle.otio_model.specs.declared.compositions.Listed.{Listed}
use Rattle.otio_model.specs.Falls.{counts-append}
use Rattle.otio_model.specs.Lengths.{added, length_of, or_zero}
use Rattle.otio_model.proofs.KeptLemmas.{added-append, taken_all, mapped-append}
use Rattle.edit_plans.specs.declared.totals.Amount.{Amount}
use Rattle.edit_plans.specs.Amounts.{amount_in, more, ticks_in}
use Rattle.edit_plans.proofs.PinLemmas.{up_to}

pub amounts_by : (a b : Amount) → a.ticks ≡ b.ticks → a.items ≡ b.items → a ≡ b
amounts_by a b t n = λ i. record { ticks = t i; items = n i }

pub ticks-append : (xs ys : List (ItemOf Listed)) → ticks_in (xs ++ ys) ≡ ticks_in xs + ticks_in ys
ticks-append xs ys = ap added (mapped-append length_of xs ys)
    ∙ added-append (map length_of xs) (map length_of ys)

pub one_ticks : (o : Option ℕ) → added (o ∷ []) ≡ or_zero o
one_ticks None = refl
one_ticks (Some n) = omega arith

one_more : (xs : List (ItemOf Listed)) (x : ItemOf Listed)
    → amount_in (xs ++ (x ∷ [])) ≡ more (amount_in xs) x
one_more xs x = amounts_by _ _
    (let a = ticks-append xs (x ∷ []) in let b = one_ticks (length_of x) in omega (arith, a, b))
    (let a = counts-append xs (x ∷ []) in omega (arith, a))

pub amount_more : (xs : List (ItemOf Listed)) (i : ℕ) (x : ItemOf Listed) (a : Amount)
    → slice_get xs i ≡ Some x → a ≡ amount_in (take i xs) → more a x ≡ amount_in (take (i + 1) xs)
amount_more xs i x a e f = ap (λ b. more b x) f ∙ sym (one_more (take i xs) x)
    ∙ sym (ap amount_in (up_to xs i x e))

pub amount_all : (xs : List (ItemOf Listed)) (i : ℕ) (a : Amount) → length xs ≤ i
    → a ≡ amount_in (take i xs) → a ≡ amount_in xs
amount_all xs i a h f = f ∙ ap amount_in (taken_all xs i h)

pub none_there : {A : Type 0} (k : ℕ) → ◌≡◌ {A = Option A} (slice_get [] k) None
none_there zero = refl
none_there (suc k) = refl

pub dropped : {A : Type 0} (at k : ℕ) (xs : List A)
    → slice_get (drop at xs) k ≡ slice_get xs (at + k)
dropped zero k xs = let e : k ≡ 0 + k = omega arith in ap (slice_get xs) e
dropped (suc at) k [] = none_there k ∙ sym (none_there (suc at + k))
dropped (suc at) k (x ∷ xs) = let e : suc (at + k) ≡ suc at + k = omega arith in dropped at k xs
    ∙ ap (slice_get (x ∷ xs)) e

-- the same of a stretch of a list, whose next item is the k-th from there
pub stretch_more : (xs : List (ItemOf Listed)) (at k i : ℕ) (x : ItemOf Listed) (a : Amount)
    → slice_get xs i ≡ Some x → i ≡ at + k → a ≡ amount_in (take k (drop at xs))
    → more a x ≡ amount_in (take (k + 1) (drop at xs))
stretch_more xs at k i x a e h f = amount_more (drop at xs) k x a
    (dropped at k xs ∙ sym (ap (slice_get xs) h) ∙ e) f

-- a stretch that is the whole list
pub stretch_whole : (xs : List (ItemOf Listed)) (at n : ℕ) (a : Amount) → n ≡ length xs
    → at + n ≤ length xs → a ≡ amount_in xs → a ≡ amount_in (take n (drop at xs))
stretch_whole xs at n a e h f =
    let first : 0 ≡ at = omega (arith, e, h) in
    f ∙ ap amount_in (sym (taken_all xs n (omega (arith, e))))
    ∙ ap (λ i. amount_in (take n (drop i xs))) first

-- Counts, lists and optional values.
use Rattle.std.proofs.Common.{◌≡◌, refl, sym, ◌∙◌, ℕ, zero, suc, ◌<◌, ◌⊎◌, inl, inr, Bool, true, false, List, [], ◌∷◌, length, arith}
use Rattle.std.specs.declared.option.Option.{Option}
use Rattle.std.specs.declared.option.Option.TheVariants.{None, Some}
use Rattle.std.specs.Prelude.{slice_get}
use Rattle.std.specs.Option.{option_or}
use Rattle.std.proofs.lemmas.Bool.{false≢true}

-- a test doesn't answer both ways
pub test-one_way : (b : Bool) → b ≡ true → b ≡ false → ⊥
test-one_way b e f = false≢true (sym f ∙ e)

-- a count is none or more
pub count-none_or_more : (n : ℕ) → (n ≡ 0) ⊎ (0 < n)
count-none_or_more zero = inl refl
count-none_or_more (suc n) = inr (omega arith)

-- below the length a list has an element
pub element-within : {A : Type 0} (xs : List A) (i : ℕ) → i < length xs → (x : A) × (slice_get xs i ≡ Some x)
element-within [] i h = absurd (omega (arith, h))
element-within (x ∷ xs) zero h = (x, refl)
element-within (x ∷ xs) (suc i) h = element-within xs i (omega (arith, h))

-- nothing as the second choice
pub option_or-none : {A : Type 0} (o : Option A) → option_or o None ≡ o
option_or-none None = refl
option_or-none (Some x) = refl

-- Small facts about lists of bytes and tests.
use Rattle.std.proofs.Common.{◌≡◌, ℕ, ◌≤◌, ◌<◌, List, ◌∷◌, Bool, true, false, refl, arith, cond, eq-eqb, rules}
use Rattle.std.proofs.lemmas.Bool.Decides.{nat_tests}
use Rattle.std.specs.Prelude.{◌≢◌, ◌==◌, ◌&&◌, nat_lt}

pub head_same : {b d : ℕ} {c e : List ℕ} → b ∷ c ≡ d ∷ e → b ≡ d
head_same h = cc h

pub tail_same : {b d : ℕ} {c e : List ℕ} → b ∷ c ≡ d ∷ e → c ≡ e
tail_same h = cc h

-- a byte that the test finds, or doesn't
pub is_byte : (b d : ℕ) → (b == d) ≡ true → b ≡ d
is_byte b d e = search (rules, e)

pub is_other : (b d : ℕ) → (b == d) ≡ false → b ≢ d
is_other b d e = grind (arith, nat_tests)

pub other_is : (b d : ℕ) → b ≢ d → (b == d) ≡ false
other_is b d e = grind (arith, nat_tests)

pub is_below : (b d : ℕ) → nat_lt b d ≡ true → b < d
is_below b d e = grind (arith, nat_tests)

pub is_least : (b d : ℕ) → nat_lt b d ≡ false → d ≤ b
is_least b d e = grind (arith, nat_tests)

pub below_is : (b d : ℕ) → b < d → nat_lt b d ≡ true
below_is b d e = grind (arith, nat_tests)

pub least_is : (b d : ℕ) → d ≤ b → nat_lt b d ≡ false
least_is b d e = grind (arith, nat_tests)

pub same_is : (b d : ℕ) → b ≡ d → (b == d) ≡ true
same_is b d e = eq-eqb b d e

-- what holds in both cases of a test holds of the choice
pub chosen : {A : Type 0} (P : A → Type 0) (t : Bool) {x y : A} → (t ≡ true → P x) → (t ≡ false → P y) → P (cond t x y)
chosen P true f g = f refl
chosen P false f g = g refl

-- the same of two choices
pub chosen₂ : {A : Type 0} (P : A → A → Type 0) (t : Bool) {x y z w : A} → (t ≡ true → P x y) → (t ≡ false → P z w) → P (cond t x z) (cond t y w)
chosen₂ P true f g = f refl
chosen₂ P false f g = g refl

pub both : (x y : Bool) → (x && y) ≡ true → (x ≡ true) × (y ≡ true)
both true true e = (refl, refl)
both true false e = cc e
both false y e = cc e

-- What lies near a 1001 rate, for every way to write a fraction.
use Rattle.std.proofs.Common.{◌≡◌, ℕ, zero, suc, ◌+◌, ◌-◌, ◌*◌, ◌≤◌, Bool, true, false, refl, sym, ◌∙◌, ap, arith, nat_le, List, [], ◌∷◌, subst}
use Rattle.std.specs.List.{list_any, Contains}
use Rattle.std.proofs.lemmas.List.Folds.{list_any_at}
use Rattle.std.proofs.lemmas.Bool.Decides.{nat_tests}
use Rattle.std.proofs.Math.Nat.{mul-le-mul_right, le_of_mul-le-mul_right}
use Rattle.tick_time.specs.Rates.{is_near, is_near_any, counts}

-- within 1/100 above and below
pub record IsClose (t b n : ℕ) : Type 0 where
  pub above : 100100 * t ≤ 100000 * (n * b) + 1001 * b
  pub below : 100000 * (n * b) ≤ 100100 * t + 1001 * b

close_in : (t b p : ℕ) → nat_le (100 * ((1001 * t - 1000 * p) + (1000 * p - 1001 * t))) (1001 * b) ≡ true → (100100 * t ≤ 100000 * p + 1001 * b) × (100000 * p ≤ 100100 * t + 1001 * b)
close_in t b p h = let le : 100 * ((1001 * t - 1000 * p) + (1000 * p - 1001 * t)) ≤ 1001 * b = grind (arith, nat_tests, h) in (omega arith, omega arith)

in_close : (t b p : ℕ) → 100100 * t ≤ 100000 * p + 1001 * b → 100000 * p ≤ 100100 * t + 1001 * b → nat_le (100 * ((1001 * t - 1000 * p) + (1000 * p - 1001 * t))) (1001 * b) ≡ true
in_close t b p above below = let le : 100 * ((1001 * t - 1000 * p) + (1000 * p - 1001 * t)) ≤ 1001 * b = omega arith in grind (arith, nat_tests, le)

pub close : (t b n : ℕ) → is_near t b n ≡ true → IsClose t b n
close t b n h =
    let p : 1000 * n * b ≡ 1000 * (n * b) = omega arith in
    let both = close_in t b (n * b) (rw p at h) in record { above = both.0; below = both.1 }

pub near : (t b n : ℕ) → IsClose t b n → is_near t b n ≡ true
near t b n h = let p : 1000 * n * b ≡ 1000 * (n * b) = omega arith in rw p (in_close t b (n * b) h.above h.below)

close_same : (t b u e n : ℕ) → 1 ≤ b → t * e ≡ u * b → IsClose t b n → IsClose u e n
close_same t b u e n some same h =
    let above : (100100 * t) * e ≤ (100000 * (n * b) + 1001 * b) * e = mul-le-mul_right e h.above in
    let below : (100000 * (n * b)) * e ≤ (100100 * t + 1001 * b) * e = mul-le-mul_right e h.below in
    let above_b : (100100 * u) * b ≤ (100000 * (n * e) + 1001 * e) * b = omega arith in
    let below_b : (100000 * (n * e)) * b ≤ (100100 * u + 1001 * e) * b = omega arith in
    record { above = le_of_mul-le-mul_right above_b some; below = le_of_mul-le-mul_right below_b some }

same_tests : (x y : Bool) → (x ≡ true → y ≡ true) → (y ≡ true → x ≡ true) → x ≡ y
same_tests true y to from = sym (to refl)
same_tests false true to from = from refl
same_tests false false to from = refl

pub near_same : (t b u e n : ℕ) → 1 ≤ b → 1 ≤ e → t * e ≡ u * b → is_near t b n ≡ is_near u e n
near_same t b u e n some other same =
    same_tests _ _ (λ h. near u e n (close_same t b u e n some same (close t b n h))) (λ h. near t b n (close_same u e t b n other (sym same) (close u e n h)))

any_same : (p q : ℕ → Bool) → ((n : ℕ) → p n ≡ q n) → (xs : List ℕ) → list_any p xs ≡ list_any q xs
any_same p q same [] = refl
any_same p q same (x ∷ xs) = rw (same x, any_same p q same xs) refl

-- the same fraction, written otherwise, lies near the same rates
pub near_any_same : (t b u e : ℕ) → 1 ≤ b → 1 ≤ e → t * e ≡ u * b → is_near_any t b ≡ is_near_any u e
near_any_same t b u e some other same = any_same (is_near t b) (is_near u e) (λ n. near_same t b u e n some other same) counts

pub near_any_at : (t b n : ℕ) → Contains counts n → is_near t b n ≡ true → is_near_any t b ≡ true
near_any_at t b n (k, lt, e) h = list_any_at (is_near t b) counts k n lt (ap (is_near t b) e ∙ h)

-- what holds of each count
pub counts_each : (P : ℕ → Type 0) → P 15 → P 24 → P 30 → P 48 → P 60 → P 120 → (n : ℕ) → Contains counts n → P n
counts_each P a b c d e f n (zero, lt, is) = subst P is a
counts_each P a b c d e f n (suc zero, lt, is) = subst P is b
counts_each P a b c d e f n (suc (suc zero), lt, is) = subst P is c
counts_each P a b c d e f n (suc (suc (suc zero)), lt, is) = subst P is d
counts_each P a b c d e f n (suc (suc (suc (suc zero))), lt, is) = subst P is e
counts_each P a b c d e f n (suc (suc (suc (suc (suc zero)))), lt, is) = subst P is f
counts_each P a b c d e f n (suc (suc (suc (suc (suc (suc k))))), lt, is) = absurd (omega arith)

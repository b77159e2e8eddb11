-- Tests on the value of a digit.
use Rattle.std.proofs.Common.{◌≡◌, ◌∙◌, sym, ap, ℕ, ◌+◌, ◌<◌, ◌≤◌, true, false, nat_lt, ◌==◌, arith}
use Rattle.std.specs.Char.{digit_value}
use Rattle.std.proofs.lemmas.Bool.{lt-ltb, le-ltb}
use Rattle.std.proofs.lemmas.Bool.Decides.{nat_tests}

pub is_below : (n d b : ℕ) → d ≡ digit_value b → d < n → nat_lt (digit_value b) n ≡ true
is_below n d b same h = ap (λ x. nat_lt x n) (sym same) ∙ lt-ltb d n h

pub is_no_less : (n d b : ℕ) → d ≡ digit_value b → n ≤ d → nat_lt (digit_value b) n ≡ false
is_no_less n d b same h = ap (λ x. nat_lt x n) (sym same) ∙ le-ltb d n h

pub is_above : (n d b : ℕ) → d ≡ digit_value b → n < d → nat_lt n (digit_value b) ≡ true
is_above n d b same h = ap (λ x. nat_lt n x) (sym same) ∙ lt-ltb n d h

pub is_no_more : (n d b : ℕ) → d ≡ digit_value b → d < n + 1 → nat_lt n (digit_value b) ≡ false
is_no_more n d b same h = ap (λ x. nat_lt n x) (sym same) ∙ le-ltb n d (omega (arith, h))

differs : (d n : ℕ) → (d ≡ n → ⊥) → (d == n) ≡ false
differs d n h = grind (arith, nat_tests, h)

pub is_other : (n d b : ℕ) → d ≡ digit_value b → (d ≡ n → ⊥) → (digit_value b == n) ≡ false
is_other n d b same h = ap (λ x. x == n) (sym same) ∙ differs d n h

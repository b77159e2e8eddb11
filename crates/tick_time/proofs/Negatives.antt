-- No rate is below 0.
use Rattle.std.proofs.Common.{◌≡◌, ℕ, ◌*◌, ◌^◌, ◌≤◌, Bool, true, false, ℤ, pos, zero, suc, ap, sym, ◌∙◌, refl, arith}
use lib.IntN.{neg_ℤ}
use Rattle.std.proofs.Math.Nat.{one-le-pow, mul-le-mul}
use Rattle.tick_time.specs.Numerals.{signed}
use Rattle.tick_time.specs.Decimals.{decimal_value, raised}
use Rattle.tick_time.specs.Rates.{GivesRate}

below_zero : (n top : ℕ) → 1 ≤ n → neg_ℤ (pos n) ≡ pos top → ⊥
below_zero zero top some e = omega arith
below_zero (suc n) top some e = cc

pub negative_none : (neg : Bool) (digits : ℕ) (exp num den : ℤ) → neg ≡ true
    → (digits ≡ 0 → neg ≡ false) → GivesRate (decimal_value neg digits exp) num den → ⊥
negative_none neg zero exp num den e plain g = let other = plain refl in cc
negative_none neg (suc n) exp num den e plain g =
    let one : 1 ≤ suc n = omega arith in
    let power : 1 ≤ 10 ^ raised exp = one-le-pow (raised exp) 10 (omega arith) in
    let some : 1 * 1 ≤ suc n * 10 ^ raised exp = mul-le-mul one power in
    below_zero (suc n * 10 ^ raised exp) g.top (omega arith)
    (ap (λ s. signed s (suc n * 10 ^ raised exp)) (sym e) ∙ g.size)

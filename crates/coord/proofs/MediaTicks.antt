-- How much media so many ticks play.
use Rattle.std.proofs.Common.{ℤ, pos, negsuc, ℕ, ◌+ℤ◌, ◌-ℤ◌, ◌*ℤ◌, ◌≤ℤ◌, ◌≤◌, ◌*◌, ◌^◌, FitsSigned, arith}
use Rattle.std.specs.Prelude.{unsigned_abs}
use Rattle.std.specs.Int.{w128, int_div_euclid}
use Rattle.std.proofs.lemmas.Int.{ints, unsigned_abs-mul, fits_signed_from_abs}
use Rattle.std.proofs.Math.Nat.{mul-le-mul}
use Rattle.limits.specs.Limits.{most_ticks}

at_most : (n s : ℕ) → s ≤ 10 ^ 9 → n * s ≤ n * 10 ^ 9
at_most n s h = mul-le-mul (omega arith) h

pub product_near : (ticks speed : ℤ) → unsigned_abs speed ≤ 10 ^ 9
    → unsigned_abs (ticks *ℤ speed) ≤ 1000000000 * unsigned_abs ticks
product_near ticks speed s =
    omega (arith, unsigned_abs-mul ticks speed, at_most (unsigned_abs ticks) (unsigned_abs speed) s)

pub start_near : (start : ℤ) → (pos 0 -ℤ pos most_ticks) ≤ℤ start → start ≤ℤ pos most_ticks
    → unsigned_abs (start *ℤ pos 1000000) ≤ 10 ^ 33
start_near start low high = omega (arith, ints, low, high)

pub near_fits : (z : ℤ) → unsigned_abs z ≤ 10 ^ 35 → FitsSigned w128 z
near_fits z near = fits_signed_from_abs w128 z (omega (arith, near))

pub quotient_near : (z : ℤ) (n : ℕ) → unsigned_abs z ≤ 1000000000 * n
    → unsigned_abs (int_div_euclid z (pos 1000000)) ≤ 1000 * n
quotient_near (pos a) n h = omega (arith, ints, h)
quotient_near (negsuc a) n h = omega (arith, ints, h)

pub sum_fits : (a b : ℤ) → unsigned_abs a ≤ 10 ^ 33 → (pos 0 -ℤ pos (10 ^ 33)) ≤ℤ b
    → b ≤ℤ pos (10 ^ 33) → FitsSigned w128 (a +ℤ b)
sum_fits a b near low high =
    fits_signed_from_abs w128 (a +ℤ b) (omega (arith, ints, near, low, high))

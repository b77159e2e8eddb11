-- Whole parts of a number that isn't negative.
use Rattle.std.proofs.Common.{ℤ, pos, negsuc, ◌*ℤ◌, ◌≤ℤ◌, arith}
use Rattle.std.specs.Int.{int_div_euclid}
use Rattle.std.proofs.lemmas.Int.{ints}

pub floor_low : (z f : ℤ) → pos 0 ≤ℤ z → pos 1 ≤ℤ f → pos 0 ≤ℤ (int_div_euclid z f *ℤ f)
floor_low (pos a) (pos b) h k = omega (arith, ints)
floor_low (pos a) (negsuc b) h k = absurd (omega (arith, ints, k))
floor_low (negsuc a) f h k = absurd (omega (arith, ints, h))

pub floor_high : (z f : ℤ) → pos 0 ≤ℤ z → pos 1 ≤ℤ f → (int_div_euclid z f *ℤ f) ≤ℤ z
floor_high (pos a) (pos b) h k = omega (arith, ints, k)
floor_high (pos a) (negsuc b) h k = absurd (omega (arith, ints, k))
floor_high (negsuc a) f h k = absurd (omega (arith, ints, h))

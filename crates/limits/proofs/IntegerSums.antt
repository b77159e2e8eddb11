-- Differences, sizes and products of whole numbers.
use Rattle.std.proofs.Common.{◌≡◌, ℕ, ℤ, pos, negsuc, ◌+ℤ◌, ◌-ℤ◌, ◌*ℤ◌, ◌≤ℤ◌, arith}
use Rattle.std.specs.Prelude.{unsigned_abs}
use Rattle.std.proofs.lemmas.Int.{ints}

-- taking nothing off
pub minus-zero : (z : ℤ) → z ≡ z -ℤ pos 0
minus-zero z = omega (arith, ints)

-- taking off one number after another is taking off their sum
pub minus-minus : (a s n : ℤ) → (a -ℤ s) -ℤ n ≡ a -ℤ (s +ℤ n)
minus-minus a s n = omega (arith, ints)

-- a number from 0 on is its own size
pub size-of_natural : (z : ℤ) → pos 0 ≤ℤ z → pos (unsigned_abs z) ≡ z
size-of_natural z h = omega (arith, ints)

-- a multiple of a number from 0 on is from 0 on
pub multiple-from_zero : (z : ℤ) (n : ℕ) → pos 0 ≤ℤ z → pos 0 ≤ℤ (z *ℤ pos n)
multiple-from_zero (pos k) n h = omega (arith, ints)
multiple-from_zero (negsuc k) n h = absurd (omega (arith, ints, h))

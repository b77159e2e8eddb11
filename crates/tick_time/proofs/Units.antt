-- How large a unit is, and that it is whole.
use Rattle.std.proofs.Common.{◌≡◌, ℕ, ◌*◌, ◌/◌, ◌%◌, ◌+◌, ◌<◌, ◌≤◌, ℤ, pos, negsuc, ◌≤ℤ◌, ◌*ℤ◌, ap, arith, unsigned_abs}
use Rattle.std.proofs.lemmas.Int.{ints}
use Rattle.std.proofs.Math.Nat.{mul-le-mul_left}
use Rattle.tick_time.specs.Rates.{unit, per_millionth}

small_in : (p n d q r : ℕ) → 1 ≤ d → d ≤ n → n * q + r ≡ p * d → q ≤ p
small_in p n d q r one low e = grind (arith, mul-le-mul_left)

pub unit_small : (num den : ℤ) → pos 1 ≤ℤ den → den ≤ℤ num → unit num den ≤ 705600000000
unit_small (pos n) (pos d) one low =
    small_in 705600000000 n d (705600000000 * d / n) (705600000000 * d % n) (omega (arith, ints)) (omega (arith, ints)) (omega (arith, ints))
unit_small (pos n) (negsuc d) one low = absurd (omega (arith, ints))
unit_small (negsuc n) (pos d) one low = absurd (omega (arith, ints))
unit_small (negsuc n) (negsuc d) one low = absurd (omega (arith, ints))

positive_in : (p n d q r : ℕ) → 1 ≤ d → n ≤ p → r < n → n * q + r ≡ p * d → 1 ≤ q
positive_in p n d q r one low small e = grind (arith, mul-le-mul_left)

pub unit_positive : (num den : ℤ) → pos 1 ≤ℤ den → pos 1 ≤ℤ num → num ≤ℤ pos 705600000000 → 1 ≤ unit num den
unit_positive (pos n) (pos d) one low high =
    positive_in 705600000000 n d (705600000000 * d / n) (705600000000 * d % n) (omega (arith, ints)) (omega (arith, ints)) (omega (arith, ints)) (omega (arith, ints))
unit_positive (pos n) (negsuc d) one low high = absurd (omega (arith, ints))
unit_positive (negsuc n) (pos d) one low high = absurd (omega (arith, ints))
unit_positive (negsuc n) (negsuc d) one low high = absurd (omega (arith, ints))

pub unit_whole : (num den : ℤ) → pos 1 ≤ℤ den → pos 1 ≤ℤ num → per_millionth * unsigned_abs den % unsigned_abs num ≡ 0 → (pos (unit num den) *ℤ num) ≡ (pos per_millionth *ℤ den)
unit_whole (pos n) (pos d) one low e = ap pos (omega (arith, ints))
unit_whole (pos n) (negsuc d) one low e = absurd (omega (arith, ints))
unit_whole (negsuc n) (pos d) one low e = absurd (omega (arith, ints))
unit_whole (negsuc n) (negsuc d) one low e = absurd (omega (arith, ints))

pub ruleset units = (unit_small, unit_positive, unit_whole)

pub larger_first : Unit {0}
larger_first = tt

pub larger_second : Unit {0}
larger_second = tt

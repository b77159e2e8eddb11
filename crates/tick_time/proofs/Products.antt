-- Products of bounded numbers, and what bounds say of their size.
use Rattle.std.proofs.Common.{◌≡◌, ℕ, ◌*◌, ◌≤◌, ℤ, pos, negsuc, ◌≤ℤ◌, ◌-ℤ◌, ◌*ℤ◌, ◌/◌, int_div, unsigned_abs, FitsSigned, refl, arith, w64}
use Rattle.std.proofs.lemmas.Int.{ints, unsigned_abs-mul, fits_signed_mul, fits_signed_from_abs}
use Rattle.std.proofs.Math.Nat.{mul-le-mul}
use native.Mathlib.Nat.{div-le_self}
use mir.Syntax.{w128}
use Rattle.tick_time.specs.Times.{IsSpeed}

abs_within : (z : ℤ) (m : ℕ) → (pos 0 -ℤ pos m) ≤ℤ z → z ≤ℤ pos m → unsigned_abs z ≤ m
abs_within z m low high = omega (arith, ints)

abs_from_zero : (z : ℤ) (m : ℕ) → pos 0 ≤ℤ z → z ≤ℤ pos m → unsigned_abs z ≤ m
abs_from_zero z m low high = omega (arith, ints)

abs_from_one : (z : ℤ) (m : ℕ) → pos 1 ≤ℤ z → z ≤ℤ pos m → unsigned_abs z ≤ m
abs_from_one z m low high = omega (arith, ints)

-- so many frames of so many ticks
pub frames_fit : (count piece : ℤ) → (pos 0 -ℤ pos 10000000000000000000) ≤ℤ count
    → count ≤ℤ pos 10000000000000000000 → pos 1 ≤ℤ piece → piece ≤ℤ pos 705600000000000000
    → FitsSigned w128 (count *ℤ piece)
frames_fit count piece low high some most =
    fits_signed_mul w128 count piece 10000000000000000000 705600000000000000
    (abs_within count _ low high) (abs_from_one piece _ some most) (omega arith)

-- so many units
pub units_fit : (units unit : ℤ) → unsigned_abs units ≤ 1000000000000000000000000
    → pos 1 ≤ℤ unit → unit ≤ℤ pos 705600000000 → FitsSigned w128 (units *ℤ unit)
units_fit units unit few some most =
    fits_signed_mul w128 units unit 1000000000000000000000000 705600000000
    few (abs_from_one unit _ some most) (omega arith)

-- a numerator times the millionths that one part has
pub millionths_small : (num each : ℤ) → pos 1 ≤ℤ num → num ≤ℤ pos 705600000000
    → pos 0 ≤ℤ each → each ≤ℤ pos 1000000
    → unsigned_abs (num *ℤ each) ≤ 1000000000000000000000000
millionths_small num each some most low high =
    let left = abs_from_one num 705600000000 some most in
    let right = abs_from_zero each 1000000 low high in
    omega (arith, unsigned_abs-mul num each, mul-le-mul left right)

pub millionths_fit : (num each : ℤ) → pos 1 ≤ℤ num → num ≤ℤ pos 705600000000
    → pos 0 ≤ℤ each → each ≤ℤ pos 1000000 → FitsSigned w128 (num *ℤ each)
millionths_fit num each some most low high =
    fits_signed_mul w128 num each 705600000000 1000000
    (abs_from_one num _ some most) (abs_from_zero each _ low high) (omega arith)

pub millionths_are : (num each : ℤ) (n : ℕ) → pos 1 ≤ℤ num → each ≡ pos n
    → num *ℤ each ≡ pos (unsigned_abs num * n)
millionths_are (pos a) each n some e = rw e refl
millionths_are (negsuc a) each n some e = absurd (omega (arith, ints))

-- a 64-bit number of frames
pub count_low : (n : ℤ) → FitsSigned w64 n → (pos 0 -ℤ pos 10000000000000000000) ≤ℤ n
count_low n fits = omega (arith, ints)

pub count_high : (n : ℤ) → FitsSigned w64 n → n ≤ℤ pos 10000000000000000000
count_high n fits = omega (arith, ints)

pub frame_positive : (n : ℤ) → pos 1000000 ≤ℤ n → pos 1 ≤ℤ n
frame_positive n some = omega (arith, ints)

-- millionths as they are rounded, and as speeds
pub rounded_fit : (n : ℤ) → unsigned_abs n ≤ 1000000000000000000000000 → FitsSigned w128 n
rounded_fit n small = fits_signed_from_abs w128 n (omega arith)

pub speed_fits : (n : ℤ) → IsSpeed n → FitsSigned w64 n
speed_fits n h = omega (arith, ints, h.low, h.high)

-- a numerator times a denominator
pub cross_fits : (num den : ℤ) → pos 1 ≤ℤ num → num ≤ℤ pos 705600000000
    → pos 1 ≤ℤ den → den ≤ℤ pos 1000000 → FitsSigned w128 (num *ℤ den)
cross_fits num den some most one high =
    fits_signed_mul w128 num den 705600000000 1000000
    (abs_from_one num _ some most) (abs_from_one den _ one high) (omega arith)

pub cross_is : (num den : ℤ) → pos 1 ≤ℤ num → pos 1 ≤ℤ den
    → num *ℤ den ≡ pos (unsigned_abs num * unsigned_abs den)
cross_is (pos a) (pos b) some one = refl
cross_is (pos a) (negsuc b) some one = absurd (omega (arith, ints))
cross_is (negsuc a) (pos b) some one = absurd (omega (arith, ints))
cross_is (negsuc a) (negsuc b) some one = absurd (omega (arith, ints))

-- a million over a denominator
pub over_is : (den : ℤ) → pos 1 ≤ℤ den
    → int_div (pos 1000000) den ≡ pos (1000000 / unsigned_abs den)
over_is (pos d) one = refl
over_is (negsuc d) one = absurd (omega (arith, ints))

pub over_high : (n : ℕ) → pos (1000000 / n) ≤ℤ pos 1000000
over_high n = omega (arith, ints, div-le_self 1000000 n)

pub over_low : (n : ℕ) → pos 0 ≤ℤ pos (1000000 / n)
over_low n = omega (arith, ints)

pub over_fits : (n : ℕ) → FitsSigned w128 (pos (1000000 / n))
over_fits n = omega (arith, ints, div-le_self 1000000 n)

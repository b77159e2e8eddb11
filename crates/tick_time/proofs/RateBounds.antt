-- The bounds of a rate's unit and frame, and which of two rates is larger.
use Rattle.std.proofs.Common.{◌≡◌, ℕ, ◌*◌, ◌≤◌, ℤ, pos, negsuc, ◌≤ℤ◌, ◌*ℤ◌, unsigned_abs, nat_le, int_le, int_div, FitsSigned, true, false, refl, arith}
use Rattle.std.proofs.lemmas.Int.{ints}
use mir.Syntax.{w128}
use Rattle.tick_time.specs.Rates.{unit}
use Rattle.tick_time.specs.Sums.{larger}
use Rattle.tick_time.specs.declared.rates.Rate.{Rate}
use Rattle.tick_time.proofs.Units.{unit_small, unit_positive}

pub num_low : (num den : ℤ) → pos 1 ≤ℤ den → den ≤ℤ num → pos 1 ≤ℤ num
num_low num den one more = omega (arith, ints)

pos_low : (n : ℕ) → 1 ≤ n → pos 1 ≤ℤ pos n
pos_low n some = omega (arith, ints)

pos_high : (n : ℕ) → n ≤ 705600000000 → pos n ≤ℤ pos 705600000000
pos_high n most = omega (arith, ints)

pos_fits : (n : ℕ) → n ≤ 705600000000 → FitsSigned w128 (pos n)
pos_fits n most = omega (arith, ints)

pub unit_low : (num den : ℤ) → pos 1 ≤ℤ den → den ≤ℤ num → num ≤ℤ pos 705600000000
    → pos 1 ≤ℤ pos (unit num den)
unit_low num den one more high =
    pos_low (unit num den) (unit_positive num den one (num_low num den one more) high)

pub unit_high : (num den : ℤ) → pos 1 ≤ℤ den → den ≤ℤ num
    → pos (unit num den) ≤ℤ pos 705600000000
unit_high num den one more = pos_high (unit num den) (unit_small num den one more)

pub unit_fits : (num den : ℤ) → pos 1 ≤ℤ den → den ≤ℤ num
    → FitsSigned w128 (pos (unit num den))
unit_fits num den one more = pos_fits (unit num den) (unit_small num den one more)

-- the unit as it is reckoned
pub parts_fit : (den : ℤ) → pos 1 ≤ℤ den → den ≤ℤ pos 1000000
    → FitsSigned w128 (pos 705600000000 *ℤ den)
parts_fit (pos d) one most = omega (arith, ints)
parts_fit (negsuc d) one most = absurd (omega (arith, ints))

pub unit_quotient : (num den : ℤ) → pos 1 ≤ℤ den → den ≤ℤ num
    → int_div (pos 705600000000 *ℤ den) num ≡ pos (unit num den)
unit_quotient (pos n) (pos d) one more = refl
unit_quotient (pos n) (negsuc d) one more = absurd (omega (arith, ints))
unit_quotient (negsuc n) (pos d) one more = absurd (omega (arith, ints))
unit_quotient (negsuc n) (negsuc d) one more = absurd (omega (arith, ints))

-- a million units
pub million_fits : (unit : ℤ) → pos 1 ≤ℤ unit → unit ≤ℤ pos 705600000000
    → FitsSigned w128 (pos 1000000 *ℤ unit)
million_fits (pos n) one most = omega (arith, ints)
million_fits (negsuc n) one most = absurd (omega (arith, ints))

pub million_low : (unit : ℤ) → pos 1 ≤ℤ unit → pos 1000000 ≤ℤ (pos 1000000 *ℤ unit)
million_low (pos n) one = omega (arith, ints)
million_low (negsuc n) one = absurd (omega (arith, ints))

pub million_high : (unit : ℤ) → pos 1 ≤ℤ unit → unit ≤ℤ pos 705600000000
    → (pos 1000000 *ℤ unit) ≤ℤ pos 705600000000000000
million_high (pos n) one most = omega (arith, ints)
million_high (negsuc n) one most = absurd (omega (arith, ints))

pub first_larger : (a b : Rate) (here there : ℤ)
    → here ≡ pos (unsigned_abs a.num * unsigned_abs b.den)
    → there ≡ pos (unsigned_abs b.num * unsigned_abs a.den)
    → int_le there here ≡ true → a ≡ larger a b
first_larger a b here there p q h =
    let test : nat_le (unsigned_abs b.num * unsigned_abs a.den)
    (unsigned_abs a.num * unsigned_abs b.den) ≡ true = rw (p, q) at h in
    rw test refl

pub second_larger : (a b : Rate) (here there : ℤ)
    → here ≡ pos (unsigned_abs a.num * unsigned_abs b.den)
    → there ≡ pos (unsigned_abs b.num * unsigned_abs a.den)
    → int_le there here ≡ false → b ≡ larger a b
second_larger a b here there p q h =
    let test : nat_le (unsigned_abs b.num * unsigned_abs a.den)
    (unsigned_abs a.num * unsigned_abs b.den) ≡ false = rw (p, q) at h in
    rw test refl

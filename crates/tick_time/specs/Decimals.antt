-- Decimals as fractions, and their rounding.
use Rattle.std.specs.Prelude.{◌≡◌, ℕ, ◌+◌, ◌*◌, ◌^◌, ◌%◌, ◌<◌, ◌≤◌, Bool, true, false, ℤ, pos, negsuc, ◌-ℤ◌, ◌*ℤ◌, unsigned_abs}
use Rattle.tick_time.specs.Numerals.{Fraction, signed}
use Rattle.tick_time.specs.Times.{IsSpeed}

-- a power of ten by which a decimal's digits are multiplied, and one by which they are divided
abbrev pub raised : ℤ → ℕ
raised (pos n) = n
raised (negsuc n) = 0

abbrev pub lowered : ℤ → ℕ
lowered (pos n) = 0
lowered (negsuc n) = n + 1

-- the fraction that a sign, digits and an exponent stand for
abbrev pub decimal_value : Bool → ℕ → ℤ → Fraction
decimal_value neg digits exp =
    record { top = signed neg (digits * 10 ^ raised exp); bottom = 10 ^ lowered exp }

-- the power of ten that an exponent and so many decimals leave
abbrev pub scale : Bool → ℕ → ℕ → ℤ
scale false power places = pos power -ℤ pos places
scale true power places = pos 0 -ℤ pos (power + places)

-- n is the whole number nearest to the fraction, and the even one of two
pub record IsHalfEven (value : Fraction) (n : ℤ) : Type 0 where
  pub near : 2 * unsigned_abs (value.top -ℤ (n *ℤ pos value.bottom)) ≤ value.bottom
  pub even : 2 * unsigned_abs (value.top -ℤ (n *ℤ pos value.bottom)) ≡ value.bottom
      → unsigned_abs n % 2 ≡ 0

-- a million times the fraction
abbrev pub millionths : Fraction → Fraction
millionths value = record { top = value.top *ℤ pos 1000000; bottom = value.bottom }

-- of numbers from 0 on: n is the whole number nearest to a / b, and the even one of two
pub record IsNearestEven (a b n : ℕ) : Type 0 where
  pub above : 2 * a ≤ 2 * (n * b) + b
  pub below : 2 * (n * b) ≤ 2 * a + b
  pub tie_above : 2 * a ≡ 2 * (n * b) + b → n % 2 ≡ 0
  pub tie_below : 2 * (n * b) ≡ 2 * a + b → n % 2 ≡ 0

-- a million times digits with an exponent, as a number over another
abbrev pub millionths_top : ℕ → ℤ → ℕ
millionths_top digits exp = digits * 10 ^ raised exp * 1000000

-- the millionths as far as they are at most 10 ^ 24
abbrev pub IsRounded : Fraction → ℤ → Type 0
IsRounded value n = IsHalfEven (millionths value) n × (unsigned_abs n ≤ 1000000000000000000000000)

-- the millionths are more than 10 ^ 24, either way
abbrev pub IsHuge : Fraction → Type 0
IsHuge value = (n : ℤ) × IsHalfEven (millionths value) n
    × (1000000000000000000000000 < unsigned_abs n)

-- the speed that a value stands for, in millionths
pub record IsTooFast (value : Fraction) : Type 0 where
  pub speed : ℤ
  pub nearest : IsHalfEven (millionths value) speed
  pub beyond : IsSpeed speed → ⊥

-- more than any rate, or below 1/10
abbrev pub IsFarFromRates : ℕ → ℤ → Type 0
IsFarFromRates digits (pos n) = 1000000000000000000000000 < digits * 10 ^ n
IsFarFromRates digits (negsuc n) = 38 < n + 1

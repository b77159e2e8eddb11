-- Rates as fractions num / den of frames a second, in lowest terms.
use Rattle.std.specs.Prelude.{◌≡◌, ℕ, ◌*◌, ◌/◌, ◌%◌, ◌==◌, Bool, true, false, cond, ◌&&◌, ◌||◌, Option, Some, None, ℤ, pos, List, [], ◌∷◌, nat_le, not, unsigned_abs}
use Rattle.std.specs.List.{list_any, Contains}
use Rattle.tick_time.specs.Numerals.{Fraction}
use Rattle.std.specs.Int.{abs_diff}
use Prim.Native.Nat.{◌∣◌}

-- ticks of a millionth of a second; the finest rate has so many frames a second
abbrev pub per_millionth : ℕ
per_millionth = 705600000000

-- ticks of a millionth of a frame
abbrev pub unit : ℤ → ℤ → ℕ
unit num den = per_millionth * unsigned_abs den / unsigned_abs num

-- ticks of a frame
abbrev pub frame : ℤ → ℤ → ℕ
frame num den = 1000000 * unit num den

-- the counts whose 1001 relatives are rates: n of them stands for n * 1000 / 1001
abbrev pub counts : List ℕ
counts = 15 ∷ 24 ∷ 30 ∷ 48 ∷ 60 ∷ 120 ∷ []

-- num / den is the 1001 relative of one of the counts
abbrev pub is_relative : ℕ → ℕ → Bool
is_relative num den = (den == 1001) && list_any (λ n. num == 1000 * n) counts

-- num / den lies within 1/100 of the relative of n
abbrev pub is_near : ℕ → ℕ → ℕ → Bool
is_near num den n = nat_le (100 * abs_diff (1001 * num) (1000 * n * den)) (1001 * den)

-- num / den has at most six decimals, lies from 1 to the finest rate, and num divides the finest
-- rate
abbrev pub is_spelled : ℕ → ℕ → Bool
is_spelled num den = (1000000 % den == 0) && nat_le den num && (per_millionth % num == 0)

-- num / den lies within 1/100 of the relative of some count
abbrev pub is_near_any : ℕ → ℕ → Bool
is_near_any num den = list_any (is_near num den) counts

-- a fraction in lowest terms that a numeral can give as a rate
unfoldable pub is_rate : ℕ → ℕ → Bool
is_rate num den = is_relative num den || (is_spelled num den && not (is_near_any num den))

-- num / den is in lowest terms
abbrev pub IsLowest : ℕ → ℕ → Type 0
IsLowest num den = (k : ℕ) → k ∣ num → k ∣ den → k ≡ 1

-- num / den in lowest terms is the fraction top / bottom, and is a rate as spelled
pub record IsSpelledRate (top bottom num den : ℕ) : Type 0 where
  pub equal : num * bottom ≡ top * den
  pub lowest : IsLowest num den
  pub profile : is_spelled num den ≡ true

-- top / bottom stands for the rate num / den: near a 1001 relative for that, else for what it
-- spells
pub data IsRateOf (top bottom num den : ℕ) : Type 0 where
  relative : (n : ℕ) → Contains counts n → is_near top bottom n ≡ true → num ≡ 1000 * n → den ≡ 1001
      → IsRateOf top bottom num den
  spelled : is_near_any top bottom ≡ false → IsSpelledRate top bottom num den
      → IsRateOf top bottom num den

-- a value stands for the rate num / den
pub record GivesRate (value : Fraction) (num den : ℤ) : Type 0 where
  pub top : ℕ
  pub size : value.top ≡ pos top
  pub rate : IsRateOf top value.bottom (unsigned_abs num) (unsigned_abs den)

-- the count that a 1001 relative's frames are numbered by, from its numerator
abbrev pub relative_count : ℕ → Option ℤ
relative_count num =
    cond (num == 15000) (Some (pos 15))
    (cond (num == 24000) (Some (pos 24)) (cond (num == 30000) (Some (pos 30))
    (cond (num == 48000) (Some (pos 48)) (cond (num == 60000) (Some (pos 60)) None))))

-- the count by which timecode numbers the frames of a second: that of a 1001 relative, or a whole
-- rate from 1 to 60
abbrev pub nominal : ℤ → ℤ → Option ℤ
nominal num den =
    cond (unsigned_abs den == 1001) (relative_count (unsigned_abs num))
    (cond (unsigned_abs den == 1) (cond (nat_le (unsigned_abs num) 60) (Some num) None) None)

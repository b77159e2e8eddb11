-- The texts of values, speeds and rates.
use Rattle.std.specs.Prelude.{◌≡◌, ℕ, zero, suc, ◌+◌, ◌-◌, ◌*◌, ◌/◌, ◌%◌, ◌<◌, ◌==◌, Bool, true, false, cond, ℤ, pos, negsuc, ◌*ℤ◌, List, [], ◌∷◌, length, slice_index, codes, unsigned_abs}
use Rattle.tick_time.specs.Numerals.{Numeral, Spells, IsSame, IsTooLong, fraction}
use Rattle.tick_time.specs.Rates.{GivesRate}

-- below 0
abbrev pub is_minus : ℤ → Bool
is_minus (pos n) = false
is_minus (negsuc n) = true

-- the text is that of so many millionths: their exact decimal, without an exponent, with no final
-- zeros and at least one digit behind the point; it is not too long to be read
pub record IsDecimalText (text : List ℕ) (millionths : ℤ) : Type 0 where
  pub number : Numeral
  pub spells : Spells text number
  pub exact : IsSame (fraction number) (record { top = millionths; bottom = 1000000 })
  pub plain : number.mark ≡ []
  pub some : 0 < length number.decimals
  pub last : slice_index number.decimals (length number.decimals - 1) ≡ 48
      → length number.decimals ≡ 1
  pub sign : number.neg ≡ is_minus millionths
  pub short : IsTooLong number → ⊥

-- the text is that of the value of ticks that are a whole number of units
pub record IsValueText (text : List ℕ) (ticks : ℤ) (unit : ℕ) : Type 0 where
  pub units : ℤ
  pub counted : ticks ≡ units *ℤ pos unit
  pub written : IsDecimalText text units

-- the digits of so many millionths below a million, as far as the last that is not 0, and at most
-- so many
unfoldable pub decimals_of : ℕ → ℕ → List ℕ
decimals_of zero rest = []
decimals_of (suc k) rest = (48 + rest / 100000) ∷ cond (rest % 100000 * 10 == 0) []
    (decimals_of k (rest % 100000 * 10))

-- the texts of the 1001 relatives, by their numerators
abbrev pub relative_text : ℕ → List ℕ
relative_text num =
    cond (num == 15000) (codes "14.985014985014985")
    (cond (num == 24000) (codes "23.976023976023978")
    (cond (num == 30000) (codes "29.97002997002997")
    (cond (num == 48000) (codes "47.952047952047955")
    (cond (num == 60000) (codes "59.94005994005994") (codes "119.88011988011988")))))

-- the millionths of the rate num / den, of which den divides a million
abbrev pub rate_millionths : ℤ → ℤ → ℕ
rate_millionths num den = unsigned_abs num * (1000000 / unsigned_abs den)

-- the text is read as the rate num / den
pub record ReadsAsRate (text : List ℕ) (num den : ℤ) : Type 0 where
  pub number : Numeral
  pub spells : Spells text number
  pub short : IsTooLong number → ⊥
  pub gives : GivesRate (fraction number) num den

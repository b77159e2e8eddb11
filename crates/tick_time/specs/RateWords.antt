-- Words that are rates.
use Rattle.std.specs.Prelude.{ℕ, List}
use Rattle.tick_time.specs.Numerals.{Numeral, Spells, IsNumeral, IsTooLong, fraction}
use Rattle.tick_time.specs.Rates.{GivesRate}
use Rattle.tick_time.specs.declared.rates.Rate.{Rate}

-- The word is a rate: a number of JSON (RFC 8259, section 6) that isn't too long and stands for the
-- rate.
pub record IsRateWord (word : List ℕ) (rate : Rate) : Type 0 where
  pub numeral : IsNumeral word
  pub short : (number : Numeral) → Spells word number → IsTooLong number → ⊥
  pub gives : (number : Numeral) → Spells word number
      → GivesRate (fraction number) rate.num rate.den

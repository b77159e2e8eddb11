-- Texts that are read as what they were written of.
use Rattle.std.specs.Prelude.{ℕ, ℤ, List}
use Rattle.tick_time.specs.declared.decimals.Decimal.{Decimal}
use Rattle.tick_time.specs.declared.rates.Rate.{Rate}
use Rattle.tick_time.specs.declared.times.Time.{Time}
use Rattle.tick_time.specs.Numerals.{IsSame}
use Rattle.tick_time.specs.Decimals.{millionths, IsHalfEven}
use Rattle.tick_time.specs.Rates.{GivesRate}
use Rattle.tick_time.specs.Sums.{IsTimeOf}
use Rattle.schema_rows.specs.Numerals.{IsSpelled, value_of_decimal}

-- the text spells so many millionths
pub record ReadsAsMillionths (text : List ℕ) (n : ℤ) : Type 0 where
  pub decimal : Decimal
  pub spelled : IsSpelled text decimal
  pub exact : IsSame (value_of_decimal decimal) (record { top = n; bottom = 1000000 })
  pub nearest : IsHalfEven (millionths (value_of_decimal decimal)) n

-- the text spells a decimal that gives the rate
pub record ReadsAsRate (text : List ℕ) (rate : Rate) : Type 0 where
  pub decimal : Decimal
  pub spelled : IsSpelled text decimal
  pub gives : GivesRate (value_of_decimal decimal) rate.num rate.den

-- the text spells a decimal that gives the time at its rate
pub record ReadsAsTime (text : List ℕ) (time : Time) : Type 0 where
  pub decimal : Decimal
  pub spelled : IsSpelled text decimal
  pub gives : IsTimeOf (value_of_decimal decimal) time.rate time

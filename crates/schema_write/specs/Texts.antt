-- The texts of speeds, rates and values.
use Rattle.std.specs.Prelude.{ℕ, ◌/◌, ◌%◌, ◌==◌, ℤ, pos, List, [], ◌∷◌, ◌++◌, decimal, unsigned_abs, if◌then◌else◌}
use Rattle.tick_time.specs.declared.rates.Rate.{Rate}
use Rattle.tick_time.specs.declared.times.Time.{Time}
use Rattle.tick_time.specs.Numerals.{minus, signed}
use Rattle.tick_time.specs.Rates.{unit}
use Rattle.tick_time.specs.Texts.{is_minus, decimals_of, relative_text, rate_millionths}

-- so many millionths: a minus below 0, the whole part, a point, and the decimals as far as the last
-- that is not 0, at least one
abbrev pub decimal_text : ℤ → List ℕ
decimal_text n =
    ((minus (is_minus n) ++ decimal (unsigned_abs n / 1000000)) ++ 46 ∷ [])
    ++ decimals_of 6 (unsigned_abs n % 1000000)

-- a rate: a 1001 relative by its own text, any other by its decimal
abbrev pub rate_text : Rate → List ℕ
rate_text rate =
    if unsigned_abs rate.den == 1001 then relative_text (unsigned_abs rate.num) else decimal_text
    (pos (rate_millionths rate.num rate.den))

-- how many units there are in so many ticks, a whole number of them
abbrev pub units_of : ℤ → ℕ → ℤ
units_of ticks unit = signed (is_minus ticks) (unsigned_abs ticks / unit)

-- the value of a time: its units are millionths of a frame of its rate
abbrev pub value_text : Time → List ℕ
value_text time = decimal_text (units_of time.ticks (unit time.rate.num time.rate.den))

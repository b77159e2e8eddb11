-- Words and the rates that they are.
use Rattle.std.proofs.Common.{◌≡◌, ℕ, ℤ, List, sym}
use Rattle.std.specs.Prelude.{Bool}
use Rattle.tick_time.specs.Numerals.{Numeral, IsSame, fraction}
use Rattle.tick_time.specs.Decimals.{decimal_value}
use Rattle.tick_time.specs.Rates.{GivesRate}
use Rattle.tick_time.specs.declared.rates.Rate.{Rate}
use Rattle.tick_time.proofs.SameValues.{same_rate, at_least_one}
use Rattle.tick_time.proofs.OneValue.{gives_same, gives_once, same_positive}
use Rattle.tick_time.proofs.SpelledRates.{power_some}
use Rattle.tick_time.specs.RateWords.{IsRateWord}

-- a word is at most one rate
pub rate_once : (word : List ℕ) (r s : Rate) → IsRateWord word r → IsRateWord word s → r ≡ s
rate_once word r s p q =
    let n = p.numeral.0 in
    let spells = p.numeral.1 in
    let same = gives_once (fraction n) r.num r.den s.num s.den (power_some _) (p.gives n spells)
    (q.gives n spells) in
    same_rate r s (same_positive r.num s.num (at_least_one r) (at_least_one s) same.0)
    (same_positive r.den s.den r.positive s.positive same.1)

-- the rate of the decimal that a numeral spells is that of the numeral
pub given_rate : (neg : Bool) (digits : ℕ) (exp num den : ℤ) (number : Numeral)
    → IsSame (decimal_value neg digits exp) (fraction number)
    → GivesRate (decimal_value neg digits exp) num den → GivesRate (fraction number) num den
given_rate neg digits exp num den number same gives =
    gives_same (fraction number) (decimal_value neg digits exp) num den (sym same) (power_some _)
    (power_some _) gives

-- and the other way
pub rate_given : (neg : Bool) (digits : ℕ) (exp num den : ℤ) (number : Numeral)
    → IsSame (decimal_value neg digits exp) (fraction number)
    → GivesRate (fraction number) num den → GivesRate (decimal_value neg digits exp) num den
rate_given neg digits exp num den number same gives =
    gives_same (decimal_value neg digits exp) (fraction number) num den same (power_some _)
    (power_some _) gives

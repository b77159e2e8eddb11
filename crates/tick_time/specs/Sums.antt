-- The rate of a sum or difference.
use Rattle.std.specs.Prelude.{◌≡◌, ◌*◌, ℤ, pos, ◌*ℤ◌, cond, nat_le, unsigned_abs}
use Rattle.tick_time.specs.declared.rates.Rate.{Rate}
use Rattle.tick_time.specs.declared.times.Time.{Time}
use Rattle.tick_time.specs.Rates.{unit, per_millionth}
use Rattle.tick_time.specs.Times.{IsWhole, IsInRange}
use Rattle.tick_time.specs.Numerals.{Fraction}
use Rattle.tick_time.specs.Decimals.{IsHalfEven, millionths}

-- the larger of two rates
abbrev pub larger : Rate → Rate → Rate
larger a b =
    cond (nat_le (unsigned_abs b.num * unsigned_abs a.den)
    (unsigned_abs a.num * unsigned_abs b.den)) a b

-- these ticks, at the rate where they are a whole number of its units, else at the finest rate
pub record IsNear (ticks : ℤ) (rate : Rate) (time : Time) : Type 0 where
  pub same : time.ticks ≡ ticks
  pub kept : IsWhole ticks (unit rate.num rate.den) → time.rate ≡ rate
  pub finest : (IsWhole ticks (unit rate.num rate.den) → ⊥)
      → (time.rate.num ≡ pos per_millionth) × (time.rate.den ≡ pos 1)

-- the time that a value has at a rate: its millionths, rounded half to even, of the rate's units
pub record IsTimeOf (value : Fraction) (rate : Rate) (time : Time) : Type 0 where
  pub units : ℤ
  pub nearest : IsHalfEven (millionths value) units
  pub ticks : time.ticks ≡ units *ℤ pos (unit rate.num rate.den)
  pub kept : time.rate ≡ rate

-- the time that a value would have at a rate is out of range
pub record IsBeyond (value : Fraction) (rate : Rate) : Type 0 where
  pub units : ℤ
  pub nearest : IsHalfEven (millionths value) units
  pub beyond : IsInRange (units *ℤ pos (unit rate.num rate.den)) → ⊥

-- Times and speeds from rounded values.
use Rattle.std.proofs.Common.{◌≡◌, ℕ, ◌*◌, ◌<◌, ◌≤◌, ℤ, pos, ◌*ℤ◌, ◌-ℤ◌, ◌≤ℤ◌, ◌∙◌, arith, unsigned_abs, Result, Ok, Err, IfOk, IfErr}
use Rattle.std.proofs.lemmas.Int.{ints, unsigned_abs-mul}
use Rattle.std.proofs.Math.Nat.{mul-le-mul_left}
use Rattle.limits.specs.Limits.{most_ticks}
use Rattle.tick_time.specs.Numerals.{Fraction}
use Rattle.tick_time.specs.Decimals.{millionths, IsHalfEven, IsHuge, IsTooFast}
use Rattle.tick_time.specs.Rates.{unit}
use Rattle.tick_time.specs.Times.{IsInRange, IsSpeed}
use Rattle.tick_time.specs.Sums.{IsTimeOf, IsBeyond}
use Rattle.tick_time.specs.declared.rates.Rate.{Rate}
use Rattle.tick_time.specs.declared.times.Time.{Time}
use Rattle.tick_time.specs.declared.faults.TimeFault.{TimeFault}
use Rattle.tick_time.specs.declared.faults.TimeFault.TheVariants.{Range}
use Rattle.tick_time.proofs.Units.{unit_positive}

pub time_read : (r : Result Time TimeFault) (value : Fraction) (units ticks : ℤ) (rate : Rate) → IfOk r (λ t. (t.ticks ≡ ticks) × (t.rate ≡ rate))
    → ticks ≡ units *ℤ pos (unit rate.num rate.den) → IsHalfEven (millionths value) units → IfOk r (IsTimeOf value rate)
time_read (Ok t) value units ticks rate h e nearest = record { units = units; nearest = nearest; ticks = h.0 ∙ e; kept = h.1 }
time_read (Err f) value units ticks rate h e nearest = tt

pub fault_read : (r : Result Time TimeFault) (value : Fraction) (units ticks : ℤ) (rate : Rate) → IfErr r (λ f. (f ≡ Range) × (IsInRange ticks → ⊥))
    → ticks ≡ units *ℤ pos (unit rate.num rate.den) → IsHalfEven (millionths value) units → IfErr r (λ f. (f ≡ Range) × IsBeyond value rate)
fault_read (Ok t) value units ticks rate h e nearest = tt
fault_read (Err f) value units ticks rate h e nearest = (h.0, record { units = units; nearest = nearest; beyond = λ i. h.1 (rw e i) })

-- ticks in range are at most so many either way
pub ticks_small : (z : ℤ) → z ≤ℤ pos most_ticks → (pos 0 -ℤ pos most_ticks) ≤ℤ z → unsigned_abs z ≤ most_ticks
ticks_small z high low = omega (arith, ints)

huge_ticks : (n : ℤ) (piece : ℕ) → 1 ≤ piece → 1000000000000000000000000 < unsigned_abs n → IsInRange (n *ℤ pos piece) → ⊥
huge_ticks n piece some large h =
    let more : unsigned_abs n * 1 ≤ unsigned_abs n * piece = mul-le-mul_left (unsigned_abs n) some in
    let most : unsigned_abs (n *ℤ pos piece) ≤ most_ticks = ticks_small (n *ℤ pos piece) h.high h.low in
    omega (arith, unsigned_abs-mul n (pos piece))

pub huge_read : (value : Fraction) (rate : Rate) → IsHuge value → IsBeyond value rate
huge_read value rate (n, nearest, large) = record {
  units = n;
  nearest = nearest;
  beyond = huge_ticks n (unit rate.num rate.den) (unit_positive rate.num rate.den rate.positive (omega (arith, ints, rate.positive, rate.at_least_one)) rate.small_num) large;
}

pub huge_speed : (value : Fraction) → IsHuge value → IsTooFast value
huge_speed value (n, nearest, large) = record { speed = n; nearest = nearest; beyond = λ h. omega (arith, ints, h.low, h.high, large) }

pub fast_speed : (value : Fraction) (n : ℤ) → IsHalfEven (millionths value) n → (IsSpeed n → ⊥) → IsTooFast value
fast_speed value n nearest far = record { speed = n; nearest = nearest; beyond = far }

pub ruleset readings = (huge_read, huge_speed, fast_speed)

-- The texts of rates, values and speeds.
use Rattle.std.proofs.Common.{◌≡◌, ◌≢◌, ℕ, zero, suc, ◌*◌, ◌/◌, ◌≤◌, Bool, true, false, ℤ, pos, negsuc, ◌*ℤ◌, ◌≤ℤ◌, unsigned_abs, List, refl, sym, ap, ◌∙◌, arith}
use Rattle.std.specs.Prelude.{◌==◌}
use Rattle.std.proofs.Math.Nat.{mul-le-mul_right, mul-div_cancel}
use Rattle.std.proofs.lemmas.Bool.Decides.{nat_tests}
use Rattle.std.proofs.lemmas.Int.{ints}
use Rattle.tick_time.specs.declared.rates.Rate.{Rate}
use Rattle.tick_time.specs.declared.times.Time.{Time}
use Rattle.tick_time.specs.Numerals.{signed}
use Rattle.tick_time.specs.Rates.{per_millionth, unit}
use Rattle.tick_time.specs.Texts.{IsDecimalText, IsValueText, is_minus, relative_text, rate_millionths}
use Rattle.tick_time.specs.Times.{IsSpeed}
use Rattle.tick_time.proofs.Fractions.{signed-mul}
use Rattle.tick_time.proofs.Readings.{ticks_small}
use Rattle.tick_time.proofs.Units.{unit_positive}
use Rattle.tick_time.proofs.MillionthsText.{signed_back}
use Rattle.schema_write.specs.Texts.{decimal_text, rate_text, units_of, value_text}
use Rattle.schema_write.proofs.Decimals.{decimal_is, abs-mul}

-- a speed is small
pub speed_small : (n : ℤ) → IsSpeed n → unsigned_abs n ≤ 1000000000
speed_small (pos n) h = omega (arith, ints, h)
speed_small (negsuc n) h = omega (arith, ints, h)

pub speed_is : (text : List ℕ) (n : ℤ) → IsDecimalText text n → IsSpeed n → text ≡ decimal_text n
speed_is text n t h = decimal_is text n (omega (arith, speed_small n h)) t

-- the size of a rate's fields
num_small : (n : ℤ) → n ≤ℤ pos per_millionth → pos 1 ≤ℤ n → unsigned_abs n ≤ per_millionth
num_small (pos n) h k = omega (arith, ints, h)
num_small (negsuc n) h k = absurd (omega (arith, ints, k))

pub den_is : (n : ℤ) (k : ℕ) → pos 1 ≤ℤ n → unsigned_abs n ≡ k → n ≡ pos k
den_is (pos n) k one e = ap pos e
den_is (negsuc n) k one e = absurd (omega (arith, ints, one))

pub rate_small : (rate : Rate) → rate_millionths rate.num rate.den ≤ 1000000000000000000000000
rate_small rate =
    let one : pos 1 ≤ℤ rate.num = omega (arith, ints, rate.positive, rate.at_least_one) in
    let num = num_small rate.num rate.small_num one in
    let per : 1000000 / unsigned_abs rate.den ≤ 1000000 = omega arith in
    let most = mul-le-mul_right {m = unsigned_abs rate.num} {n = per_millionth} (1000000 / unsigned_abs rate.den) num in
    omega (arith, most, per)

pub rate_is : (text : List ℕ) (rate : Rate) → (rate.den ≡ pos 1001 → text ≡ relative_text (unsigned_abs rate.num))
    → (rate.den ≢ pos 1001 → IsDecimalText text (pos (rate_millionths rate.num rate.den))) → text ≡ rate_text rate
rate_is text rate relative spelled = by (unsigned_abs rate.den == 1001) refl
  where
    by : (t : Bool) → (unsigned_abs rate.den == 1001) ≡ t → text ≡ rate_text rate
    by true e = rw e (relative (den_is rate.den 1001 rate.positive (grind (arith, nat_tests))))
    by false e =
        let other : unsigned_abs rate.den ≢ 1001 = grind (arith, nat_tests) in
        rw e (decimal_is text (pos (rate_millionths rate.num rate.den)) (rate_small rate) (spelled (λ same. other (ap unsigned_abs same))))

-- the sign of a number of units
minus_neg : (m : ℕ) → 1 ≤ m → is_minus (signed true m) ≡ true
minus_neg zero some = absurd (omega arith)
minus_neg (suc m) some = refl

minus_in : (u : ℤ) (k : ℕ) → 1 ≤ k → is_minus (u *ℤ pos k) ≡ is_minus u
minus_in (pos n) k some = ap is_minus (signed-mul false n k)
minus_in (negsuc n) k some = ap is_minus (signed-mul true (suc n) k) ∙ minus_neg (suc n * k) (omega (arith, mul-le-mul_right {m = 1} {n = suc n} k (omega arith)))

pub units_are : (ticks u : ℤ) (k : ℕ) → 1 ≤ k → ticks ≡ u *ℤ pos k → units_of ticks k ≡ u
units_are ticks u k some e =
    let size : unsigned_abs ticks / k ≡ unsigned_abs u = ap (λ z. unsigned_abs z / k) e ∙ ap (λ n. n / k) (abs-mul u k) ∙ mul-div_cancel (unsigned_abs u) some in
    let sign : is_minus ticks ≡ is_minus u = ap is_minus e ∙ minus_in u k some in
    ap (λ s. signed s (unsigned_abs ticks / k)) sign ∙ ap (signed (is_minus u)) size ∙ signed_back u

pub units_small : (ticks u : ℤ) (k : ℕ) → 1 ≤ k → ticks ≡ u *ℤ pos k → unsigned_abs u ≤ unsigned_abs ticks
units_small ticks u k some e =
    let all = ap unsigned_abs e ∙ abs-mul u k in
    let most = mul-le-mul_right {m = 1} {n = k} (unsigned_abs u) some in
    omega (arith, all, most)

pub value_is : (text : List ℕ) (time : Time) → IsValueText text time.ticks (unit time.rate.num time.rate.den) → text ≡ value_text time
value_is text time v =
    let rate = time.rate in
    let k = unit rate.num rate.den in
    let some = unit_positive rate.num rate.den rate.positive (omega (arith, ints, rate.positive, rate.at_least_one)) rate.small_num in
    let small = units_small time.ticks v.units k some v.counted in
    decimal_is text v.units (omega (arith, small, ticks_small time.ticks time.high time.low)) v.written ∙ ap decimal_text (sym (units_are time.ticks v.units k some v.counted))

-- What is written is read again.
use Rattle.std.proofs.Common.{◌≡◌, ℕ, zero, suc, ◌+◌, ◌*◌, ◌^◌, ◌≤◌, Bool, ℤ, pos, ◌*ℤ◌, ◌-ℤ◌, ◌≤ℤ◌, unsigned_abs, List, refl, sym, ◌∙◌, ap, subst, arith, Result, Ok, Err, IfOk, IfErr, IsOk}
use Rattle.std.proofs.lemmas.Int.{ints, unsigned_abs-mul}
use Rattle.std.proofs.Math.Nat.{one-le-pow}
use Rattle.tick_time.specs.declared.rates.Rate.{Rate}
use Rattle.tick_time.specs.declared.times.Time.{Time}
use Rattle.tick_time.specs.declared.faults.TimeFault.{TimeFault}
use Rattle.tick_time.specs.Numerals.{Fraction, IsSame, Numeral, Spells, fraction}
use Rattle.tick_time.specs.Decimals.{decimal_value, millionths, IsHalfEven, IsTooFast, lowered}
use Rattle.tick_time.specs.Rates.{unit, GivesRate}
use Rattle.tick_time.specs.Sums.{IsTimeOf, IsBeyond}
use Rattle.tick_time.specs.Times.{IsInRange, IsSpeed}
use Rattle.tick_time.specs.Texts.{ReadsAsRate, IsDecimalText, IsValueText}
use borrow.Author.Differences.{up, down}
use Rattle.tick_time.proofs.LowestTerms.{same_right}
use Rattle.tick_time.proofs.OneValue.{gives_same, gives_once, same_positive}

pub record RateAgain (r : Result Rate TimeFault) (num den : ℤ) : Type 0 where
  pub ok : IsOk r
  pub num_is : IfOk r (λ again. again.num ≡ num)
  pub den_is : IfOk r (λ again. again.den ≡ den)

rate_in : (r : Result Rate TimeFault) (kind : TimeFault) (v : Fraction) (num den : ℤ) → 1 ≤ v.bottom → pos 1 ≤ℤ num → pos 1 ≤ℤ den → GivesRate v num den
    → IfOk r (λ rate. GivesRate v rate.num rate.den) → IfErr r (λ fault. (fault ≡ kind) × ((n d : ℤ) → GivesRate v n d → ⊥)) → RateAgain r num den
rate_in (Ok rate) kind v num den some p q g ok err =
    let once = gives_once v rate.num rate.den num den some ok g in record {
      ok = refl;
      num_is = same_positive rate.num num (omega (arith, ints, rate.positive, rate.at_least_one)) p once.0;
      den_is = same_positive rate.den den rate.positive q once.1;
    }
rate_in (Err fault) kind v num den some p q g ok err = absurd (err.1 num den g)

pub rate_again : (r : Result Rate TimeFault) (kind : TimeFault) (bytes text : List ℕ) (neg : Bool) (digits : ℕ) (exp num den : ℤ) → bytes ≡ text → ReadsAsRate text num den → pos 1 ≤ℤ num → pos 1 ≤ℤ den
    → ((n : Numeral) → Spells bytes n → IsSame (decimal_value neg digits exp) (fraction n))
    → IfOk r (λ rate. GivesRate (decimal_value neg digits exp) rate.num rate.den)
    → IfErr r (λ fault. (fault ≡ kind) × ((n d : ℤ) → GivesRate (decimal_value neg digits exp) n d → ⊥)) → RateAgain r num den
rate_again r kind bytes text neg digits exp num den e reads p q value ok err =
    let same = value reads.number (subst (λ t. Spells t reads.number) (sym e) reads.spells) in
    let some : 1 ≤ 10 ^ lowered exp = one-le-pow (lowered exp) 10 (omega arith) in
    rate_in r kind (decimal_value neg digits exp) num den some p q (gives_same (decimal_value neg digits exp) (fraction reads.number) num den same some (one-le-pow _ 10 (omega arith)) reads.gives) ok err

-- the whole number of millionths that a fraction is, is the only one nearest to it
exact_in : (t x y : ℤ) (b : ℕ) → 1 ≤ b → t ≡ x *ℤ pos b → 2 * unsigned_abs (t -ℤ (y *ℤ pos b)) ≤ b → y ≡ x
exact_in t x y b some e near =
    let line : up (x -ℤ y) + down x + up y ≡ down (x -ℤ y) + up x + down y = omega (arith, ints) in
    let times : (up (x -ℤ y) + down x + up y) * b ≡ (down (x -ℤ y) + up x + down y) * b = ap (λ n. n * b) line in
    let apart : t -ℤ (y *ℤ pos b) ≡ (x -ℤ y) *ℤ pos b = rw e (omega (arith, ints, times)) in
    let size : unsigned_abs ((x -ℤ y) *ℤ pos b) ≡ unsigned_abs (x -ℤ y) * b = unsigned_abs-mul (x -ℤ y) (pos b) in
    let le : 2 * (unsigned_abs (x -ℤ y) * b) ≤ b = omega (arith, size, ap unsigned_abs apart) in
    let none = none_in (unsigned_abs (x -ℤ y)) b some le in
    omega (arith, ints, none) where
      none_in : (d b : ℕ) → 1 ≤ b → 2 * (d * b) ≤ b → d ≡ 0
      none_in zero b some le = refl
      none_in (suc d) b some le = absurd (omega arith)

million_in : (v w : ℤ) (b e : ℕ) (x : ℤ) → 1 ≤ e → (v *ℤ pos e) ≡ (w *ℤ pos b) → (w *ℤ pos 1000000) ≡ (x *ℤ pos e) → (v *ℤ pos 1000000) ≡ (x *ℤ pos b)
million_in v w b e x some p q =
    let first : up v * e + down w * b ≡ up w * b + down v * e = omega (arith, ints) in
    let second : up w * 1000000 + down x * e ≡ up x * e + down w * 1000000 = omega (arith, ints) in
    let times : (up w * 1000000 + down x * e) * b ≡ (up x * e + down w * 1000000) * b = ap (λ n. n * b) second in
    let both : (up v * 1000000 + down x * b) * e ≡ (up x * b + down v * 1000000) * e = omega (arith, first, times) in
    let one = same_right (up v * 1000000 + down x * b) (up x * b + down v * 1000000) e some both in
    omega (arith, ints, one)

-- a value that is so many millionths exactly is rounded to them
pub exact_nearest : (v w : Fraction) (x y : ℤ) → 1 ≤ v.bottom → 1 ≤ w.bottom → IsSame v w → IsSame w (record { top = x; bottom = 1000000 }) → IsHalfEven (millionths v) y → y ≡ x
exact_nearest v w x y some other same exact h = exact_in (v.top *ℤ pos 1000000) x y v.bottom some (million_in v.top w.top v.bottom w.bottom x other same exact) h.near

pub record TimeAgain (r : Result Time TimeFault) (ticks : ℤ) (rate : Rate) : Type 0 where
  pub ok : IsOk r
  pub ticks_is : IfOk r (λ again. again.ticks ≡ ticks)
  pub rate_is : IfOk r (λ again. again.rate ≡ rate)

time_in : (r : Result Time TimeFault) (kind : TimeFault) (v : Fraction) (ticks units : ℤ) (rate : Rate) → IsInRange ticks → ticks ≡ units *ℤ pos (unit rate.num rate.den)
    → ((y : ℤ) → IsHalfEven (millionths v) y → y ≡ units) → IfOk r (IsTimeOf v rate) → IfErr r (λ fault. (fault ≡ kind) × IsBeyond v rate) → TimeAgain r ticks rate
time_in (Ok time) kind v ticks units rate inside e only ok err = record {
  ok = refl;
  ticks_is = ok.ticks ∙ ap (λ n. n *ℤ pos (unit rate.num rate.den)) (only ok.units ok.nearest) ∙ sym e;
  rate_is = ok.kept;
}
time_in (Err fault) kind v ticks units rate inside e only ok err =
    absurd (err.1.beyond (subst IsInRange (e ∙ ap (λ n. n *ℤ pos (unit rate.num rate.den)) (sym (only err.1.units err.1.nearest))) inside))

pub time_again : (r : Result Time TimeFault) (kind : TimeFault) (bytes text : List ℕ) (neg : Bool) (digits : ℕ) (exp ticks : ℤ) (rate : Rate) → bytes ≡ text → IsInRange ticks → IsValueText text ticks (unit rate.num rate.den)
    → ((n : Numeral) → Spells bytes n → IsSame (decimal_value neg digits exp) (fraction n))
    → IfOk r (IsTimeOf (decimal_value neg digits exp) rate) → IfErr r (λ fault. (fault ≡ kind) × IsBeyond (decimal_value neg digits exp) rate) → TimeAgain r ticks rate
time_again r kind bytes text neg digits exp ticks rate e inside v value ok err =
    let t = v.written in
    let same = value t.number (subst (λ x. Spells x t.number) (sym e) t.spells) in
    time_in r kind (decimal_value neg digits exp) ticks v.units rate inside v.counted
    (λ y h. exact_nearest (decimal_value neg digits exp) (fraction t.number) v.units y (one-le-pow (lowered exp) 10 (omega arith)) (one-le-pow _ 10 (omega arith)) same t.exact h) ok err

pub record SpeedAgain (r : Result ℤ TimeFault) (speed : ℤ) : Type 0 where
  pub ok : IsOk r
  pub speed_is : IfOk r (λ again. again ≡ speed)

speed_in : (r : Result ℤ TimeFault) (kind : TimeFault) (v : Fraction) (speed : ℤ) → IsSpeed speed → ((y : ℤ) → IsHalfEven (millionths v) y → y ≡ speed)
    → IfOk r (λ again. IsHalfEven (millionths v) again) → IfErr r (λ fault. (fault ≡ kind) × IsTooFast v) → SpeedAgain r speed
speed_in (Ok again) kind v speed inside only ok err = record { ok = refl; speed_is = only again ok }
speed_in (Err fault) kind v speed inside only ok err = absurd (err.1.beyond (subst IsSpeed (sym (only err.1.speed err.1.nearest)) inside))

pub speed_again : (r : Result ℤ TimeFault) (kind : TimeFault) (bytes text : List ℕ) (neg : Bool) (digits : ℕ) (exp speed : ℤ) → bytes ≡ text → IsSpeed speed → IsDecimalText text speed
    → ((n : Numeral) → Spells bytes n → IsSame (decimal_value neg digits exp) (fraction n))
    → IfOk r (λ again. IsHalfEven (millionths (decimal_value neg digits exp)) again) → IfErr r (λ fault. (fault ≡ kind) × IsTooFast (decimal_value neg digits exp)) → SpeedAgain r speed
speed_again r kind bytes text neg digits exp speed e inside t value ok err =
    let same = value t.number (subst (λ x. Spells x t.number) (sym e) t.spells) in
    speed_in r kind (decimal_value neg digits exp) speed inside
    (λ y h. exact_nearest (decimal_value neg digits exp) (fraction t.number) speed y (one-le-pow (lowered exp) 10 (omega arith)) (one-le-pow _ 10 (omega arith)) same t.exact h) ok err

-- A decimal, a rate, a number of millionths, a time and a span are determined by what they stand for.
use Rattle.std.proofs.Common.{◌≡◌, ◌≤◌, ◌⊎◌, inl, inr, ℕ, zero, suc, ◌+◌, ◌*◌, ◌%◌, ℤ, pos, ◌*ℤ◌, ◌-ℤ◌, unsigned_abs, refl, sym, ap, subst, ◌∙◌, arith}
use Rattle.std.proofs.lemmas.Int.{ints, unsigned_abs-mul}
use Rattle.std.proofs.Math.Nat.{one-le-pow}
use borrow.Author.Differences.{up, down}
use Rattle.tick_time.specs.Numerals.{Fraction}
use Rattle.tick_time.specs.Decimals.{lowered, millionths, IsHalfEven, IsTooFast}
use Rattle.tick_time.specs.Rates.{GivesRate, unit}
use Rattle.tick_time.specs.Sums.{IsTimeOf, IsBeyond}
use Rattle.tick_time.specs.Times.{IsInRange, IsSpeed}
use Rattle.tick_time.specs.declared.decimals.Decimal.{Decimal}
use Rattle.tick_time.specs.declared.rates.Rate.{Rate}
use Rattle.tick_time.specs.declared.times.Time.{Time}
use Rattle.tick_time.proofs.OneValue.{gives_once, same_positive}
use Rattle.tick_time.proofs.SameValues.{at_least_one, same_rate, same_time}
use Rattle.schema_rows.specs.Numerals.{value_of_decimal}

some_bottom : (d : Decimal) → 1 ≤ (value_of_decimal d).bottom
some_bottom d = one-le-pow (lowered d.exp) 10 (omega arith)

pub rate_once : (d : Decimal) (r s : Rate) → GivesRate (value_of_decimal d) r.num r.den → GivesRate (value_of_decimal d) s.num s.den → r ≡ s
rate_once d r s p q =
    let same = gives_once (value_of_decimal d) r.num r.den s.num s.den (some_bottom d) p q in
    same_rate r s (same_positive r.num s.num (at_least_one r) (at_least_one s) same.0) (same_positive r.den s.den r.positive s.positive same.1)

-- the whole number nearest to a fraction is one
apart_by : (k b x y : ℕ) → 1 ≤ b → k * b ≤ x + y → 2 * x ≤ b → 2 * y ≤ b → (k ≡ 0) ⊎ ((k ≡ 1) × (2 * x ≡ b) × (2 * y ≡ b))
apart_by zero b x y some h p q = inl refl
apart_by (suc zero) b x y some h p q = inr (refl, omega arith, omega arith)
apart_by (suc (suc k)) b x y some h p q = absurd (omega arith)

apart_sum : (t n m : ℤ) (b : ℕ) → unsigned_abs (n -ℤ m) * b ≤ unsigned_abs (t -ℤ (n *ℤ pos b)) + unsigned_abs (t -ℤ (m *ℤ pos b))
apart_sum t n m b =
    let line : up (n -ℤ m) + down n + up m ≡ down (n -ℤ m) + up n + down m = omega (arith, ints) in
    let times : (up (n -ℤ m) + down n + up m) * b ≡ (down (n -ℤ m) + up n + down m) * b = ap (λ x. x * b) line in
    let apart : (n *ℤ pos b) -ℤ (m *ℤ pos b) ≡ (n -ℤ m) *ℤ pos b = omega (arith, ints, times) in
    let size : unsigned_abs ((n -ℤ m) *ℤ pos b) ≡ unsigned_abs (n -ℤ m) * b = unsigned_abs-mul (n -ℤ m) (pos b) in
    let is : unsigned_abs ((n *ℤ pos b) -ℤ (m *ℤ pos b)) ≡ unsigned_abs (n -ℤ m) * b = ap unsigned_abs apart ∙ size in
    by (n *ℤ pos b) (m *ℤ pos b) is where
      by : (x y : ℤ) → unsigned_abs (x -ℤ y) ≡ unsigned_abs (n -ℤ m) * b → unsigned_abs (n -ℤ m) * b ≤ unsigned_abs (t -ℤ x) + unsigned_abs (t -ℤ y)
      by x y is = omega (arith, ints, is)

not_both_even : (n m : ℤ) → unsigned_abs (n -ℤ m) ≡ 1 → unsigned_abs n % 2 ≡ 0 → unsigned_abs m % 2 ≡ 0 → ⊥
not_both_even n m e p q = omega (arith, ints, e, p, q)

nearest_once : (v : Fraction) (n m : ℤ) → 1 ≤ v.bottom → IsHalfEven v n → IsHalfEven v m → n ≡ m
nearest_once v n m some p q = by (apart_by (unsigned_abs (n -ℤ m)) v.bottom _ _ some (apart_sum v.top n m v.bottom) p.near q.near) where
  by : (unsigned_abs (n -ℤ m) ≡ 0) ⊎ ((unsigned_abs (n -ℤ m) ≡ 1) × (2 * unsigned_abs (v.top -ℤ (n *ℤ pos v.bottom)) ≡ v.bottom) × (2 * unsigned_abs (v.top -ℤ (m *ℤ pos v.bottom)) ≡ v.bottom)) → n ≡ m
  by (inl e) = omega (arith, ints, e)
  by (inr (e, x, y)) = absurd (not_both_even n m e (p.even x) (q.even y))

pub speed_once : (d : Decimal) (n m : ℤ) → IsHalfEven (millionths (value_of_decimal d)) n → IsHalfEven (millionths (value_of_decimal d)) m → n ≡ m
speed_once d n m p q = nearest_once (millionths (value_of_decimal d)) n m (some_bottom d) p q

pub not_too_fast : (d : Decimal) (n : ℤ) → IsHalfEven (millionths (value_of_decimal d)) n → IsSpeed n → IsTooFast (value_of_decimal d) → ⊥
not_too_fast d n p speed fast = fast.beyond (subst IsSpeed (speed_once d n fast.speed p fast.nearest) speed)

-- times
pub time_once : (d : Decimal) (r : Rate) (t u : Time) → IsTimeOf (value_of_decimal d) r t → IsTimeOf (value_of_decimal d) r u → t ≡ u
time_once d r t u p q =
    let units = speed_once d p.units q.units p.nearest q.nearest in
    same_time t u (p.ticks ∙ ap (λ (n : ℤ). n *ℤ pos (unit r.num r.den)) units ∙ sym q.ticks) (p.kept ∙ sym q.kept)

pub not_beyond : (d : Decimal) (r : Rate) (t : Time) → IsTimeOf (value_of_decimal d) r t → IsBeyond (value_of_decimal d) r → ⊥
not_beyond d r t p q =
    let units = speed_once d p.units q.units p.nearest q.nearest in
    let inside : IsInRange t.ticks = record { low = t.low; high = t.high } in
    q.beyond (subst IsInRange (p.ticks ∙ ap (λ (n : ℤ). n *ℤ pos (unit r.num r.den)) units) inside)

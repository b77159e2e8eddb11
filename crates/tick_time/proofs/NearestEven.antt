-- What is rounded half to even is the nearest whole number, and the even one of two.
use Rattle.std.proofs.Common.{◌≡◌, ◌<◌, ◌≤◌, ◌+◌, ◌*◌, ◌/◌, ◌%◌, ◌⊎◌, inl, inr, ℕ, ℤ, pos, negsuc, ◌+ℤ◌, ◌-ℤ◌, ◌*ℤ◌, ◌≤ℤ◌, ◌<ℤ◌, Bool, true, false, cond, nat_lt, refl, sym, subst, ap, unsigned_abs, arith}
use Rattle.std.specs.Prelude.{◌==◌, int_lt, int_le}
use Rattle.std.specs.Int.{int_div_euclid, int_rem_euclid}
use Rattle.std.proofs.lemmas.Int.{ints}
use Rattle.std.proofs.lemmas.Bool.Decides.{nat_tests}
use Rattle.std.proofs.lemmas.Bool.{ltb-true, ltb-false, and_parts, and_cases, or_parts, or_cases, eqb-true}
use Rattle.std.proofs.lemmas.Nat.{div-add-mod'}
use Rattle.std.proofs.Math.Nat.{add-mul, mod-lt}
use Rattle.tick_time.specs.Decimals.{IsNearestEven, IsHalfEven}
use Rattle.limits.proofs.IntegerTests.{int_lt-true, int_lt-false, int_le-true, int_le-false}
use Rattle.tick_time.specs.Rounding.{half_even, is_rounded_down, from_millionths}

even_or : (q : ℕ) → (q % 2 ≡ 0) ⊎ (q % 2 ≡ 1)
even_or q = grind arith

-- q times b is x, and what is left of a is r
record IsDivided (a b q r x : ℕ) : Type 0 where
  times : q * b ≡ x
  rest : a ≡ x + r
  less : r < b

lower : (a b q r x : ℕ) → IsDivided a b q r x → 2 * r < b → IsNearestEven a b q
lower a b q r x d h = record {
  above = omega (arith, d.times, d.rest, h);
  below = omega (arith, d.times, d.rest, h);
  tie_above = λ e. absurd (omega (arith, d.times, d.rest, h, e));
  tie_below = λ e. absurd (omega (arith, d.times, d.rest, d.less, e));
}

upper : (a b q r x : ℕ) → IsDivided a b q r x → b < 2 * r → IsNearestEven a b (q + 1)
upper a b q r x d h =
    let next : (q + 1) * b ≡ q * b + 1 * b = add-mul q 1 b in
    record {
      above = omega (arith, d.times, d.rest, d.less, h, next);
      below = omega (arith, d.times, d.rest, d.less, h, next);
      tie_above = λ e. absurd (omega (arith, d.times, d.rest, d.less, next, e));
      tie_below = λ e. absurd (omega (arith, d.times, d.rest, h, next, e));
    }

half : (a b q r x : ℕ) → IsDivided a b q r x → 2 * r ≡ b → (q % 2 ≡ 0) ⊎ (q % 2 ≡ 1) → IsNearestEven a b (q + q % 2)
half a b q r x d h (inl even) =
    let same : q ≡ q + q % 2 = omega (arith, even) in
    let here : IsNearestEven a b q =
    record { above = omega (arith, d.times, d.rest, h); below = omega (arith, d.times, d.rest, h); tie_above = λ e. even; tie_below = λ e. even } in
    subst (IsNearestEven a b) same here
half a b q r x d h (inr odd) =
    let same : q + 1 ≡ q + q % 2 = omega (arith, odd) in
    let next : (q + 1) * b ≡ q * b + 1 * b = add-mul q 1 b in
    let here : IsNearestEven a b (q + 1) =
    record { above = omega (arith, d.times, d.rest, h, next); below = omega (arith, d.times, d.rest, h, next); tie_above = λ e. omega (arith, odd); tie_below = λ e. omega (arith, odd) } in
    subst (IsNearestEven a b) same here

by_tests : (a b q r x : ℕ) (s t : Bool) → nat_lt (2 * r) b ≡ s → nat_lt b (2 * r) ≡ t → IsDivided a b q r x → IsNearestEven a b (q + cond s 0 (cond t 1 (q % 2)))
by_tests a b q r x true t e f d = let same : q ≡ q + 0 = omega arith in subst (IsNearestEven a b) same (lower a b q r x d (ltb-true (2 * r) b e))
by_tests a b q r x false true e f d = upper a b q r x d (ltb-true b (2 * r) f)
by_tests a b q r x false false e f d =
    let low = ltb-false (2 * r) b e in
    let high = ltb-false b (2 * r) f in
    half a b q r x d (omega (arith, low, high)) (even_or q)

-- a fraction of numbers from 0 on
pub half_even_is_nearest : (a b : ℕ) → 1 ≤ b → IsNearestEven a b (half_even a b)
half_even_is_nearest a b some =
    let whole = div-add-mod' a b in
    let less : a % b < b = mod-lt a some in
    by_tests a b (a / b) (a % b) (a / b * b) (nat_lt (2 * (a % b)) b) (nat_lt b (2 * (a % b))) refl refl (record { times = refl; rest = sym whole; less = less })

-- ---- millionths

-- a number is a quotient and a rest of a division by a million
record IsOfMillion (z q r : ℤ) : Type 0 where
  is : z ≡ (q *ℤ pos 1000000) +ℤ r
  low : pos 0 ≤ℤ r
  less : r <ℤ pos 1000000

divided : (z : ℤ) → IsOfMillion z (int_div_euclid z (pos 1000000)) (int_rem_euclid z (pos 1000000))
divided (pos a) = record { is = omega (arith, ints); low = omega (arith, ints); less = omega (arith, ints) }
divided (negsuc a) = record { is = omega (arith, ints); low = omega (arith, ints); less = omega (arith, ints) }

-- rounded down: the rest is at most a half, and at a half the quotient is even
down : (z q r : ℤ) → r ≤ℤ pos 500000 → (r ≡ pos 500000 → unsigned_abs q % 2 ≡ 0) → IsOfMillion z q r
    → IsHalfEven (record { top = z; bottom = 1000000 }) q
down z q r few even d =
    let apart : z -ℤ (q *ℤ pos 1000000) ≡ r = omega (arith, ints, d.is) in
    record {
      near = omega (arith, ints, d.low, few, ap unsigned_abs apart);
      even = λ e. even (omega (arith, ints, d.low, few, ap unsigned_abs apart, e));
    }

-- rounded up: the rest is at least a half, and at a half the quotient is odd
up : (z q r : ℤ) → pos 500000 ≤ℤ r → (r ≡ pos 500000 → unsigned_abs (q +ℤ pos 1) % 2 ≡ 0)
    → IsOfMillion z q r → IsHalfEven (record { top = z; bottom = 1000000 }) (q +ℤ pos 1)
up z q r many even d =
    let apart : z -ℤ ((q +ℤ pos 1) *ℤ pos 1000000) ≡ r -ℤ pos 1000000 = omega (arith, ints, d.is) in
    record {
      near = omega (arith, ints, d.less, many, ap unsigned_abs apart);
      even = λ e. even (omega (arith, ints, d.less, many, ap unsigned_abs apart, e));
    }

not_even : (n : ℕ) → (n % 2 == 0) ≡ false → n % 2 ≡ 1
not_even n e = grind (arith, nat_tests, e)

odd_next : (q : ℤ) → unsigned_abs q % 2 ≡ 1 → unsigned_abs (q +ℤ pos 1) % 2 ≡ 0
odd_next q h = omega (arith, ints, h)

by_rest : (z q r : ℤ) (b : Bool) → is_rounded_down q r ≡ b → IsOfMillion z q r
    → IsHalfEven (record { top = z; bottom = 1000000 }) (cond b q (q +ℤ pos 1))
by_rest z q r true e d = elim (or_cases (int_lt r (pos 500000)) _ e) [
  | inl less ↦
      let few = int_lt-true r (pos 500000) less in
      down z q r (omega (arith, ints, few)) (λ same. absurd (omega (arith, ints, few, same))) d
  | inr half ↦
      let parts = and_parts (int_le r (pos 500000)) _ half in
      down z q r (int_le-true r (pos 500000) parts.0) (λ _. eqb-true _ _ parts.1) d
]
by_rest z q r false e d =
    let parts = or_parts (int_lt r (pos 500000)) _ e in
    let many = int_lt-false r (pos 500000) parts.0 in
    up z q r many (λ same. odd_next q (elim (and_cases (int_le r (pos 500000)) _ parts.1) [
      | inl more ↦ let above = int_le-false r (pos 500000) more in absurd (omega (arith, ints, above, same))
      | inr odd ↦ not_even _ odd
    ])) d

-- so many millionths, of either sign
pub from_millionths_is_half_even : (z : ℤ) → IsHalfEven (record { top = z; bottom = 1000000 }) (from_millionths z)
from_millionths_is_half_even z = by_rest z (int_div_euclid z (pos 1000000)) (int_rem_euclid z (pos 1000000)) _ refl (divided z)

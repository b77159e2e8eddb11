-- Decimals of whole numbers, without final zeros.
use Rattle.std.proofs.Common.{◌≡◌, ◌≢◌, ℕ, zero, suc, ◌+◌, ◌*◌, ◌/◌, ◌%◌, ◌^◌, ◌<◌, ◌≤◌, Bool, true, false, pos, ◌+ℤ◌, refl, sym, ap, ◌∙◌, arith, add-one}
use Rattle.std.specs.Prelude.{◌==◌}
use Rattle.std.proofs.lemmas.Bool.Decides.{nat_tests}
use Rattle.std.proofs.lemmas.Grind.{pow_more}
use Rattle.std.proofs.lemmas.Int.{ints}
use Rattle.std.proofs.Math.Nat.{mul-le-mul_left, one-le-pow}
use Rattle.tick_time.specs.declared.decimals.Decimal.{Decimal}
use Rattle.tick_time.specs.Numerals.{IsSame, signed}
use Rattle.tick_time.specs.Decimals.{decimal_value, scale}
use Rattle.tick_time.proofs.Fractions.{same_fraction, zero_fraction}

-- digits of which the last is not 0, and the zeros behind them
pub record IsShortened (fuel x : ℕ) : Type 0 where
  pub digits : ℕ
  pub zeros : ℕ
  pub value : x ≡ digits * 10 ^ zeros
  pub last : digits % 10 ≡ 0 → digits ≡ 0
  pub few : zeros ≤ fuel

power_cons : (n : ℕ) → 10 ^ suc n ≡ 10 ^ n * 10
power_cons n = ap (λ k. 10 ^ k) (sym (add-one n)) ∙ pow_more 10 n

one_zero : (fuel x : ℕ) → x % 10 ≡ 0 → IsShortened fuel (x / 10) → IsShortened (suc fuel) x
one_zero fuel x e s =
    let tens : x ≡ x / 10 * 10 = omega (arith, e) in
    let power = power_cons s.zeros in
    let times : x / 10 * 10 ≡ s.digits * 10 ^ s.zeros * 10 = ap (λ n. n * 10) s.value in
    let same : s.digits * 10 ^ suc s.zeros ≡ s.digits * (10 ^ s.zeros * 10) = ap (λ n. s.digits * n) power in
    record { digits = s.digits; zeros = suc s.zeros; value = omega (arith, tens, times, same); last = s.last; few = omega (arith, s.few) }

no_zero : (fuel x : ℕ) → (x % 10 ≡ 0 → x ≡ 0) → IsShortened fuel x
no_zero fuel x last = record { digits = x; zeros = 0; value = omega arith; last = last; few = omega arith }

shortened : (fuel x : ℕ) → x < 10 ^ fuel → IsShortened fuel x
shortened zero x h = let none : x ≡ 0 = omega (arith, h) in no_zero zero x (λ _. none)
shortened (suc fuel) x h = by (x % 10 == 0) refl (shortened fuel (x / 10) (let p = power_cons fuel in omega (arith, h, p)))
  where
    by : (t : Bool) → (x % 10 == 0) ≡ t → IsShortened fuel (x / 10) → IsShortened (suc fuel) x
    by true e s = one_zero fuel x (grind (arith, nat_tests, e)) s
    by false e s = let some : x % 10 ≢ 0 = grind (arith, nat_tests, e) in no_zero (suc fuel) x (λ z. absurd (some z))

-- a decimal that is a whole number over a power of ten
pub record IsDecimalFor (neg : Bool) (x places : ℕ) : Type 0 where
  pub decimal : Decimal
  pub same : IsSame (decimal_value decimal.neg decimal.digits decimal.exp) (record { top = signed neg (x * 10 ^ 0); bottom = 10 ^ (places + 0) })

no_decimal : (neg : Bool) (x places : ℕ) → x ≡ 0 → IsDecimalFor neg x places
no_decimal neg x places e = record {
  decimal = record {
    neg = false;
    digits = 0;
    exp = pos 0;
    short = omega arith;
    last = λ _. refl;
    plain_zero = λ _. refl;
    unsigned_zero = λ _. refl;
    low = omega (arith, ints);
    high = omega (arith, ints);
  };
  same = zero_fraction false neg 0 (10 ^ 0) x (10 ^ (places + 0)) (pos 0) refl e;
}

some_decimal : (neg : Bool) (x places : ℕ) → x < 100000000000000000000000000000000000000 → places ≤ 38 → x ≢ 0 → (s : IsShortened 38 x) → IsDecimalFor neg x places
some_decimal neg x places small few some s =
    let power : 1 ≤ 10 ^ s.zeros = one-le-pow s.zeros 10 (omega arith) in
    let most : s.digits * 1 ≤ s.digits * 10 ^ s.zeros = mul-le-mul_left s.digits power in
    let there : s.digits ≢ 0 = λ z. some (s.value ∙ ap (λ n. n * 10 ^ s.zeros) z ∙ omega arith) in
    record {
      decimal = record {
        neg = neg;
        digits = s.digits;
        exp = pos s.zeros +ℤ scale false 0 places;
        short = omega (arith, most, s.value, small);
        last = s.last;
        plain_zero = λ z. absurd (there z);
        unsigned_zero = λ z. absurd (there z);
        low = omega (arith, ints, s.few, few);
        high = omega (arith, ints, s.few, few);
      };
      same = same_fraction neg s.digits s.zeros (pos s.zeros +ℤ scale false 0 places) false 0 places x refl s.value;
    }

pub decimal_for : (neg : Bool) (x places : ℕ) → x < 100000000000000000000000000000000000000 → places ≤ 38 → IsDecimalFor neg x places
decimal_for neg x places small few = by (x == 0) refl
  where
    by : (t : Bool) → (x == 0) ≡ t → IsDecimalFor neg x places
    by true e = no_decimal neg x places (grind (arith, nat_tests, e))
    by false e = some_decimal neg x places small few (grind (arith, nat_tests, e)) (shortened 38 x small)

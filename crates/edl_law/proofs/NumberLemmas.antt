-- Numbers as they are written.
use Rattle.std.proofs.Common.{◌≡◌, ◌+◌, ◌*◌, ◌^◌, ◌<◌, ◌≤◌, ◌/◌, ◌%◌, ℕ, zero, suc, ◌++◌, codes, refl, sym, ap, ◌∙◌, add-one, arith}
use Rattle.std.specs.Char.{digit_value}
use Rattle.std.specs.Str.Parse.{AllDigits, digits_value}
use Rattle.std.proofs.lemmas.Grind.{pow_more}
use Rattle.std.proofs.lemmas.Int.Digits.{digits_push, digits_value_push}
use Rattle.tick_time.proofs.Places.{digit_is}
use Rattle.edl_text.specs.Numbers.{IsNumber}
use Rattle.edl_text.specs.Speeds.{IsTenths}
use Rattle.edl_list.specs.declared.layout.Layout.{Layout}
use Rattle.edl_text.specs.Columns.{digits}
use Rattle.edl_text.proofs.Widths.{length_digits}

pub one_digit : (n : ℕ) → IsNumber 1 (digits 1 n) (n % 10)
one_digit n =
    let a = digit_is (n % 10) (omega arith) in
    record { digits = (omega arith, (omega (arith, a), tt)); few = omega arith; value = omega (arith, a) }

pub three_digits : (n : ℕ) → n ≤ 999 → IsNumber 3 (digits 3 n) n
three_digits n small =
    let a = digit_is (n / 10 / 10 % 10) (omega arith) in
    let b = digit_is (n / 10 % 10) (omega arith) in
    let c = digit_is (n % 10) (omega arith) in
    record { digits = (omega arith, (omega (arith, a), (omega (arith, b), (omega (arith, c), tt)))); few = omega arith; value = omega (arith, a, b, c) }

-- a speed in tenths
pub tenths_text : (tenths : ℕ) → tenths ≤ 9999 → IsTenths (digits 3 (tenths / 10) ++ (codes "." ++ digits 1 tenths)) tenths
tenths_text tenths small = record {
  whole = digits 3 (tenths / 10);
  tenth = digits 1 tenths;
  units = tenths / 10;
  more = tenths % 10;
  is = refl;
  is_whole = three_digits (tenths / 10) (omega arith);
  is_tenth = one_digit tenths;
  value = omega arith;
}

-- the layout has digits for the number
pub record IsNumbered (layout : Layout) (number : ℕ) : Type 0 where
  pub some : 1 ≤ layout.number_width
  pub few : layout.number_width ≤ 6
  pub below : number < 10 ^ layout.number_width

last_digit : (n : ℕ) → digit_value (48 + n % 10) ≡ n % 10
last_digit n = digit_is (n % 10) (omega arith)

all_digits : (width n : ℕ) → AllDigits 10 (digits width n)
all_digits zero n = tt
all_digits (suc width) n =
    let last = last_digit n in
    digits_push 10 (digits width (n / 10)) (48 + n % 10) (all_digits width (n / 10)) (omega (arith, last))

power : (width : ℕ) → 10 ^ suc width ≡ 10 ^ width * 10
power width = ap (λ k. 10 ^ k) (sym (add-one width)) ∙ pow_more 10 width

-- digits for a number write it
value_is : (width n : ℕ) → n < 10 ^ width → digits_value 10 (digits width n) ≡ n
value_is zero n below = omega (arith, below)
value_is (suc width) n below =
    let more = power width in
    let front = value_is width (n / 10) (omega (arith, below, more)) in
    let last = last_digit n in
    digits_value_push 10 (digits width (n / 10)) (48 + n % 10) ∙ omega (arith, front, last)

-- the number of an event
pub number_written : (layout : Layout) (n : ℕ) → IsNumbered layout n
    → IsNumber 6 (digits layout.number_width n) n
number_written layout n h =
    let long = length_digits layout.number_width n in
    let some = h.some in
    let few = h.few in
    record {
      digits = (omega (arith, long, some), all_digits layout.number_width n);
      few = omega (arith, long, few);
      value = sym (value_is layout.number_width n h.below);
    }

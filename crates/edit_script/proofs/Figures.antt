-- Numbers of at most fifteen digits.
use Rattle.std.proofs.Common.{◌≡◌, refl, ◌-◌, ◌<◌, ◌≤◌, ◌&&◌, ℕ, true, List, [], ◌∷◌, All, length, arith}
use Rattle.std.specs.Prelude.{nat_le}
use Rattle.std.specs.Str.Parse.{AllDigits, digits_value}
use Rattle.std.proofs.lemmas.List.Elements.{All-nil, All-cons, All-head, All-tail}
use Rattle.std.proofs.lemmas.Int.Digits.{digits_value-lt}
use Rattle.std.proofs.lemmas.Bool.{and_from, and_parts}
use Rattle.std.proofs.Math.Nat.{pow-le-pow_right}
use Rattle.tick_time.proofs.DigitBytes.{digits_of}
use Rattle.coord.specs.Images.{is_digit}
use Rattle.edit_script.specs.Numbers.{are_digits, is_unpadded, is_natural}

abbrev Within : List ℕ → Type 0
Within bytes = All (λ b. (48 ≤ b) × (b ≤ 57)) bytes

pub all_are_digits : (bytes : List ℕ) → Within bytes → are_digits bytes ≡ true
all_are_digits [] h = refl
all_are_digits (b ∷ bytes) h =
    let range = All-head (λ x. (48 ≤ x) × (x ≤ 57)) b bytes h in
    let low = range.0 in let high = range.1 in
    let e : is_digit b ≡ true = grind (arith, low, high) in
    and_from (is_digit b) (are_digits bytes) e (all_are_digits bytes
    (All-tail (λ x. (48 ≤ x) × (x ≤ 57)) b bytes h))

digit_low : (b : ℕ) → is_digit b ≡ true → 48 ≤ b
digit_low b e = grind arith

digit_high : (b : ℕ) → is_digit b ≡ true → b ≤ 57
digit_high b e = grind arith

pub are_digits_all : (bytes : List ℕ) → are_digits bytes ≡ true → Within bytes
are_digits_all [] h = All-nil (λ x. (48 ≤ x) × (x ≤ 57))
are_digits_all (b ∷ bytes) h =
    let k = and_parts (is_digit b) (are_digits bytes) h in
    All-cons (λ x. (48 ≤ x) × (x ≤ 57)) b bytes (digit_low b k.0, digit_high b k.0)
    (are_digits_all bytes k.1)

pub natural_digits : (word : List ℕ) → is_natural word ≡ true → AllDigits 10 word
natural_digits word h =
    let k = and_parts (nat_le (length word) 15) (are_digits word && is_unpadded word) h in
    digits_of word (are_digits_all word (and_parts (are_digits word) (is_unpadded word) k.1).0)

pub natural_few : (word : List ℕ) → is_natural word ≡ true → length word ≤ 15
natural_few word h = let k = (and_parts (nat_le (length word) 15) (are_digits word && is_unpadded
    word)
    h).0 in grind (arith, k)

-- at most fifteen digits write a number below 10 ^ 15
pub below : (digits : List ℕ) → AllDigits 10 digits → length digits ≤ 15
    → digits_value 10 digits < 1000000000000000
below digits all few =
    omega (
      arith,
      digits_value-lt 10 digits all,
      pow-le-pow_right {n = 10} (omega arith)
          {i = length digits} {j = 15} few,
    )

pub natural_below : (word : List ℕ) → is_natural word ≡ true
    → digits_value 10 word < 1000000000000000
natural_below word h = below word (natural_digits word h) (natural_few word h)

pub ruleset naturals = (natural_digits, natural_few, natural_below)

pub ruleset all_digits = (are_digits_all, all_are_digits)

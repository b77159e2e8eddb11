-- Bytes from `0` to `9` as digits.
use Rattle.std.proofs.Common.{◌≡◌, ℕ, ◌+◌, ◌-◌, ◌*◌, ◌^◌, ◌<◌, ◌≤◌, List, [], ◌∷◌, All, take, length, get_or, arith}
use Rattle.std.specs.Str.Parse.{AllDigits, digits_value}
use Rattle.std.proofs.lemmas.List.Elements.{All-nil, All-cons, All-head, All-tail}
use Rattle.std.proofs.lemmas.Str.{digit_value_digit}
use Rattle.std.proofs.lemmas.Str.Parse.{digit_from_value, digit_at, digits_value-take-le}
use Rattle.std.proofs.lemmas.Int.Digits.{digits_value_more, digits_value-lt}
use Rattle.std.proofs.Math.Nat.{pow-le-pow_right}

-- bytes from `0` to `9` are digits
pub digits_of : (bytes : List ℕ) → All (λ b. (48 ≤ b) × (b ≤ 57)) bytes → AllDigits 10 bytes
digits_of [] h = tt
digits_of (b ∷ bytes) h =
    let range = All-head (λ x. (48 ≤ x) × (x ≤ 57)) b bytes h in
    (omega (arith, digit_value_digit b range), digits_of bytes (All-tail (λ x. (48 ≤ x) × (x ≤ 57)) b bytes h))

-- digits are bytes from `0` to `9`
pub of_digits : (bytes : List ℕ) → AllDigits 10 bytes → All (λ b. (48 ≤ b) × (b ≤ 57)) bytes
of_digits [] h = All-nil (λ x. (48 ≤ x) × (x ≤ 57))
of_digits (b ∷ bytes) h = All-cons (λ x. (48 ≤ x) × (x ≤ 57)) b bytes (digit_from_value b h.0) (of_digits bytes h.1)

-- the value of one digit more
pub pushed : (digits : List ℕ) (i : ℕ) → AllDigits 10 digits → i < length digits
    → digits_value 10 (take i digits) * 10 + (get_or digits i 0 - 48) ≡ digits_value 10 (take (i + 1) digits)
pushed digits i all within =
    omega (arith, digits_value_more 10 digits i within, digit_value_digit (get_or digits i 0) (digit_at digits i all within))

-- at most eighteen digits write a number below 10 ^ 18
pub short_below : (digits : List ℕ) → AllDigits 10 digits → length digits ≤ 18
    → digits_value 10 digits < 10 ^ 18
short_below digits all few =
    omega (
      arith,
      digits_value-lt 10 digits all,
      pow-le-pow_right {n = 10} (omega arith) {i = length digits} {j = 18} few,
    )

-- so does one digit more of them
pub one_more_below : (digits : List ℕ) (i : ℕ) → AllDigits 10 digits → length digits ≤ 18
    → i < length digits
    → digits_value 10 (take i digits) * 10 + (get_or digits i 0 - 48) < 10 ^ 18
one_more_below digits i all few within =
    omega (
      arith,
      pushed digits i all within,
      digits_value-take-le 10 digits (i + 1) (omega arith),
      short_below digits all few,
    )

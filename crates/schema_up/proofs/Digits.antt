-- The number that at most nine digits write.
use Rattle.std.proofs.Common.{◌≡◌, ◌<◌, ◌≤◌, ◌-◌, ℕ, true, List, [], ◌∷◌, take, length, arith}
use Rattle.std.proofs.Math.Nat.{pow-le-pow_right}
use Rattle.std.proofs.lemmas.Bool.Decides.{nat_tests}
use Rattle.std.proofs.lemmas.Int.Digits.{digits_value-lt}
use Rattle.std.proofs.lemmas.List.{length-take-le}
use Rattle.std.specs.Char.{is_ascii_digit, digit_value}
use Rattle.std.specs.List.{list_all}
use Rattle.std.specs.Str.Parse.{digits_value, AllDigits}

-- digits are digits in the radix ten
pub all_digits : (ds : List ℕ) → list_all is_ascii_digit ds ≡ true → AllDigits 10 ds
all_digits [] h = tt
all_digits (d ∷ ds) h = (grind (arith, nat_tests), all_digits ds (grind (arith, nat_tests)))

-- the number of up to eight digits is small
pub small : (ds : List ℕ) (i : ℕ) → i < length ds → length ds ≤ 9 → list_all is_ascii_digit (take i ds) ≡ true → digits_value 10 (take i ds) < 100000000
small ds i below few all =
    let long : length (take i ds) ≤ 8 = omega (arith, length-take-le i ds) in
    let power = pow-le-pow_right {n = 10} (omega arith) long in
    omega (arith, digits_value-lt 10 (take i ds) (all_digits (take i ds) all), power)

-- the value of a digit
pub digit_is : (d : ℕ) → is_ascii_digit d ≡ true → d - 48 ≡ digit_value d
digit_is d h = grind (arith, nat_tests)

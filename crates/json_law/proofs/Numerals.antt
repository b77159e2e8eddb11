-- From a numeral of a JSON value to a number that exact times are read from, and back.
use Rattle.std.proofs.Common.{◌≡◌, ℕ, ◌≤◌, ◌≢◌, inl, inr, Bool, true, false, List, [], ◌∷◌, ◌++◌, length, refl, ◌∙◌, ap, arith}
use Rattle.std.specs.Prelude.{◌==◌}
use Rattle.std.specs.Char.{is_ascii_digit}
use Rattle.std.specs.Str.Parse.{AllDigits}
use Rattle.std.proofs.lemmas.Bool.Decides.{nat_tests}
use Rattle.std.proofs.lemmas.Str.Parse.{digit_from_value}
use Rattle.json_text.specs.Numeral.{IsJsonNumeral, AreDigits as JsonDigits, SomeDigits, IsWhole, IsFraction, IsSigned as IsJsonSigned, IsExponent as IsJsonExponent, IsMinus}
use Rattle.tick_time.specs.Numerals.{minus, frac, IsInt, AreDigits, IsSigned, bare, behind, IsExp, absent, plain, raised, lowered, IsExponent, IsTail, IsNumeral}
use Rattle.tick_time.proofs.Scans.{digit_test}
use Rattle.tick_time.proofs.Joins.{digit_small, exponent_none, signed_exponent, tail_point, numeral_joined}

all_of : (ds : List ℕ) → JsonDigits ds → AllDigits 10 ds
all_of [] all = tt
all_of (d ∷ ds) all = (digit_small d all.0, all_of ds all.1)

digits_of : (ds : List ℕ) → SomeDigits ds → AreDigits ds
digits_of [] some = absurd some
digits_of (d ∷ ds) some = record { some = omega arith; all = (digit_small d some.0, all_of ds some.1) }

digit_between : (b : ℕ) → 48 ≤ b → b ≤ 57 → is_ascii_digit b ≡ true
digit_between b low high = grind (arith, nat_tests)

int_of : (whole : List ℕ) → IsWhole whole → IsInt whole
int_of [] whole = absurd whole
int_of (b ∷ bs) (inl zero) =
    let all : AllDigits 10 (b ∷ bs) = rw (zero.0, zero.1) (omega arith, tt) in
    record { some = omega arith; all = all; lead = λ _. rw zero.1 refl }
int_of (b ∷ bs) (inr other) = record {
  some = omega arith;
  all = (digit_small b (digit_between b (omega (arith, other.0)) other.1), all_of bs other.2);
  lead = λ h. let low : 49 ≤ b = other.0 in absurd (omega arith);
}

signed_of : (bs : List ℕ) → IsJsonSigned bs → IsSigned bs
signed_of [] signed = absurd signed
signed_of (b ∷ bs) (inl some) = bare (digits_of (b ∷ bs) some)
signed_of (b ∷ bs) (inr sign) = behind b bs sign.0 refl (digits_of bs sign.1)

exponent_of : (bs : List ℕ) → IsJsonExponent bs → IsExponent bs
exponent_of [] e = exponent_none [] (omega arith)
exponent_of (b ∷ bs) e = signed_exponent (b ∷ bs) bs b e.0 refl (signed_of bs e.1)

tail_of : (fraction exponent : List ℕ) → IsFraction fraction → IsExponent exponent → IsTail (fraction ++ exponent)
tail_of [] exponent f e = record { digits = []; rest = exponent; spelled = refl; decimals = tt; exponent = e }
tail_of (b ∷ bs) exponent f e =
    let digits = digits_of bs f.1 in
    tail_point ((b ∷ bs) ++ exponent) bs exponent (ap (λ p. p ∷ (bs ++ exponent)) f.0) digits.some digits.all e

sign_of : (sign : List ℕ) → IsMinus sign → (neg : Bool) × (sign ≡ minus neg)
sign_of sign (inl none) = (false, none)
sign_of sign (inr less) = (true, less)

-- a numeral of a JSON value is a number that exact times are read from
pub numeral_of_json : (spelled : List ℕ) → IsJsonNumeral spelled → IsNumeral spelled
numeral_of_json spelled (sign, whole, fraction, exponent, less, int, frac, exp, text) =
    let neg = sign_of sign less in
    numeral_joined spelled (whole ++ (fraction ++ exponent)) whole (fraction ++ exponent) neg.0 (text ∙ ap (λ s. s ++ (whole ++ (fraction ++ exponent))) neg.1) refl (int_of whole int)
    (tail_of fraction exponent frac (exponent_of exponent exp))

json_digits : (ds : List ℕ) → AllDigits 10 ds → JsonDigits ds
json_digits [] all = tt
json_digits (d ∷ ds) all = (digit_test d all.0, json_digits ds all.1)

json_some : (ds : List ℕ) → AreDigits ds → SomeDigits ds
json_some [] digits = absurd (omega (arith, digits.some))
json_some (d ∷ ds) digits = (digit_test d digits.all.0, json_digits ds digits.all.1)

whole_in : (zero : Bool) (d : ℕ) (ds : List ℕ) → (d == 48) ≡ zero → IsInt (d ∷ ds) → IsWhole (d ∷ ds)
whole_in true d ds e int =
    let is : d ≡ 48 = grind (arith, nat_tests, e) in
    let one : length (d ∷ ds) ≡ 1 = int.lead is in inl (is, none_left ds (omega (arith, one)))
  where
    none_left : (xs : List ℕ) → length xs ≡ 0 → xs ≡ []
    none_left [] h = refl
    none_left (x ∷ xs) h = absurd (omega arith)
whole_in false d ds e int =
    let range = digit_from_value d int.all.0 in
    let other : d ≢ 48 = grind (arith, nat_tests, e) in inr (omega arith, omega arith, json_digits ds int.all.1)

json_whole : (whole : List ℕ) → IsInt whole → IsWhole whole
json_whole [] int = absurd (omega (arith, int.some))
json_whole (d ∷ ds) int = whole_in (d == 48) d ds refl int

json_fraction : (decimals : List ℕ) → AllDigits 10 decimals → IsFraction (frac decimals)
json_fraction [] all = tt
json_fraction (d ∷ ds) all = (refl, (digit_test d all.0, json_digits ds all.1))

signed_in : (bs : List ℕ) → SomeDigits bs → IsJsonSigned bs
signed_in [] some = some
signed_in (b ∷ bs) some = inl some

json_exponent : (mark power : List ℕ) (down : Bool) → IsExp mark down power → IsJsonExponent (mark ++ power)
json_exponent mark power down (absent m d p) = rw (m, p) tt
json_exponent mark power down (plain letter is m d digits) = rw m (is, signed_in power (json_some power digits))
json_exponent mark power down (raised letter is m d digits) = rw m (is, inr (inl refl, json_some power digits))
json_exponent mark power down (lowered letter is m d digits) = rw m (is, inr (inr refl, json_some power digits))

json_minus : (neg : Bool) → IsMinus (minus neg)
json_minus true = inr refl
json_minus false = inl refl

-- and the other way
pub json_of_numeral : (spelled : List ℕ) → IsNumeral spelled → IsJsonNumeral spelled
json_of_numeral spelled (n, s) = (
  minus n.neg,
  n.whole,
  frac n.decimals,
  n.mark ++ n.power,
  json_minus n.neg,
  json_whole n.whole s.int,
  json_fraction n.decimals s.decimals,
  json_exponent n.mark n.power n.down s.exp,
  s.spelled,
)

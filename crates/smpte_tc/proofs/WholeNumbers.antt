-- Whole numbers and the digits that spell them.
use Rattle.std.proofs.Common.{◌≡◌, ◌⊎◌, ℕ, subst, ◌<◌, ◌^◌, List, length, get_or, sym, ap, ◌∙◌, inl, inr, arith, decimal}
use Rattle.std.specs.Str.Parse.{AllDigits, IsNumeral, digits_value, without_leading_plus}
use Rattle.std.proofs.lemmas.Str.Parse.{IsNumeralModel, numerals_by_value, tells_digits, digits_value_short, not_in_digits, without_leading_plus_none}
use Rattle.std.proofs.lemmas.Fmt.{decimal_is_IsNumeral, decimal_digit, first_decimal, length-decimal-le, decimal-digits_value}
use Rattle.tick_time.proofs.Scans.{count-none_or_more}
use Rattle.smpte_tc.specs.Words.{IsWholeNumber}
use Rattle.smpte_tc.specs.Digits.{IsWhole}

-- digits are numerals by their value
pub digits_model : IsNumeralModel (AllDigits 10) (digits_value 10)
digits_model = numerals_by_value (AllDigits 10) tells_digits

-- of a number that begins with `0` that is the only digit
pub zero-alone : (n : ℕ) → n < 2 ^ 64 → (n ≡ 0) ⊎ (0 < n) → get_or (decimal n) 0 0 ≡ 48 → length (decimal n) ≡ 1
zero-alone n small (inl e) first = ap length (ap decimal e ∙ decimal_digit 0 (omega arith))
zero-alone n small (inr more) first = absurd (omega (arith, first_decimal n more small, first))

-- the digits of a number are those of a whole number
decimal_whole : (n : ℕ) → n < 10 ^ 18 → IsWhole (decimal n)
decimal_whole n small =
    let within : n < 2 ^ 64 = omega arith in
    let numeral = (decimal_is_IsNumeral n within).0 in record {
      digits = numeral.1;
      few = length-decimal-le 18 n (omega arith) small within;
      plain = record { some = numeral.0; one = zero-alone n within (count-none_or_more n) };
    }

pub whole_of : (word : List ℕ) (n : ℕ) → IsWholeNumber word n → IsWhole word
whole_of word n w = subst IsWhole (sym w.0) (decimal_whole n w.1)

-- digits in the form of a whole number are those of their value
pub number_of : (word : List ℕ) → IsWhole word → IsWholeNumber word (digits_value 10 word)
number_of word w =
    let small : digits_value 10 word < 10 ^ 18 = digits_value_short digits_model word 18 w.digits w.few in
    (sym (decimal-digits_value digits_model word w.digits w.plain.some w.plain.one (omega arith)), small)

-- digits have no sign
no_plus : (word : List ℕ) → IsWhole word → without_leading_plus word ≡ word
no_plus word w = without_leading_plus_none word (not_in_digits digits_model word 43 w.digits (λ r. omega (arith, r)) 0 w.plain.some)

pub read_number : (word : List ℕ) (number : ℕ) → IsWhole word → number ≡ digits_value 10 (without_leading_plus word) → IsWholeNumber word number
read_number word number w e = subst (IsWholeNumber word) (sym (e ∙ ap (digits_value 10) (no_plus word w))) (number_of word w)

-- what is read of a whole number is no error
pub is_read : (word : List ℕ) → IsWhole word → IsNumeral 10 (without_leading_plus word) × (digits_value 10 (without_leading_plus word) < 2 ^ 64)
is_read word w =
    let Q : List ℕ → Type 0 = λ t. IsNumeral 10 t × (digits_value 10 t < 2 ^ 64) in
    subst Q (sym (no_plus word w)) ((w.plain.some, w.digits), omega (arith, (number_of word w).1))

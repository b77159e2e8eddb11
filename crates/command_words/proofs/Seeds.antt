-- Seeds and the digits that spell them.
use Rattle.std.proofs.Common.{◌≡◌, ◌≢◌, ℕ, subst, ◌<◌, ◌^◌, List, length, get_or, sym, ap, ◌∙◌, arith, decimal}
use Rattle.std.specs.Str.Parse.{AllDigits, IsNumeral, digits_value, without_leading_plus}
use Rattle.std.proofs.lemmas.Str.Parse.{not_in_digits, without_leading_plus_none}
use Rattle.std.proofs.lemmas.Fmt.{decimal_injective, decimal_is_IsNumeral, decimal-digits_value}
use Rattle.tick_time.proofs.Scans.{count-none_or_more}
use Rattle.smpte_tc.proofs.WholeNumbers.{digits_model, zero-alone}
use Rattle.command_words.specs.Drills.{IsSeed, IsUnsigned}

-- digits have no sign
no_sign : (word : List ℕ) → AllDigits 10 word → 0 < length word → get_or word 0 0 ≢ 43
no_sign word digits some = not_in_digits digits_model word 43 digits (λ r. omega (arith, r)) 0 some

decimal_unsigned : (n : ℕ) → n < 2 ^ 64 → IsUnsigned (decimal n)
decimal_unsigned n small =
    let numeral = (decimal_is_IsNumeral n small).0 in record {
      some = numeral.0;
      no_plus = no_sign (decimal n) numeral.1 numeral.0;
      one = zero-alone n small (count-none_or_more n);
    }

-- a seed is spelled without a sign
pub seed_unsigned : (word : List ℕ) (n : ℕ) → IsSeed word n → IsUnsigned word
seed_unsigned word n s = subst IsUnsigned (sym s.0) (decimal_unsigned n s.1)

-- what is read of digits without a sign is their seed
pub read_seed : (word : List ℕ) (n : ℕ) → IsUnsigned word → IsNumeral 10 (without_leading_plus word)
    → digits_value 10 (without_leading_plus word) < 2 ^ 64
    → n ≡ digits_value 10 (without_leading_plus word) → IsSeed word n
read_seed word n w numeral small e =
    let plain = without_leading_plus_none word w.no_plus in
    let value = e ∙ ap (digits_value 10) plain in
    let digits = subst (IsNumeral 10) plain numeral in
    let within = subst (λ t. digits_value 10 t < 2 ^ 64) plain small in (
      sym (ap decimal value ∙ decimal-digits_value digits_model word digits.1 w.some w.one within),
      subst (λ m. m < 2 ^ 64) (sym e) small,
    )

-- what is read of a seed is no error
pub is_read : (word : List ℕ) (n : ℕ) → IsSeed word n
    → IsNumeral 10 (without_leading_plus word)
    × (digits_value 10 (without_leading_plus word) < 2 ^ 64)
is_read word n s =
    let plain = without_leading_plus_none word (seed_unsigned word n s).no_plus in
    let spelled = decimal_is_IsNumeral n s.1 in
    let Q : List ℕ → Type 0 = λ t. IsNumeral 10 t × (digits_value 10 t < 2 ^ 64) in
    subst Q (sym (plain ∙ s.0)) (spelled.0, subst (λ m. m < 2 ^ 64) (sym spelled.1) s.1)

-- a word is at most one seed
pub seed_once : (word : List ℕ) (m n : ℕ) → IsSeed word m → IsSeed word n → m ≡ n
seed_once word m n p q = decimal_injective m n p.1 q.1 (sym p.0 ∙ q.0)

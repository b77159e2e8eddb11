-- Numbers and reels, each of one field.
use Rattle.std.proofs.Common.{◌≡◌, ◌^◌, ◌<◌, ◌≤◌, ℕ, List, length, refl, sym, ap, ◌∙◌, arith}
use Rattle.std.specs.Str.Parse.{AllDigits, IsNumeral, digits_value}
use Rattle.std.proofs.lemmas.Int.Digits.{digits_value-lt}
use Rattle.std.proofs.Math.Nat.{pow-le-pow_right}
use Rattle.edl_text.specs.Statements.{Reel, Black, Named}
use Rattle.edl_text.specs.Numbers.{IsNumber, IsReel}

-- a number of at most so many digits is below that power of ten
pub below : (digits : List ℕ) (most : ℕ) → AllDigits 10 digits → length digits ≤ most → digits_value 10 digits < 10 ^ most
below digits most all few = omega (arith, digits_value-lt 10 digits all, pow-le-pow_right {n = 10} (omega arith) {i = length digits} {j = most} few)

pub is_number : (field : List ℕ) (most : ℕ) → IsNumeral 10 field → length field ≤ most → IsNumber most field (digits_value 10 field)
is_number field most digits few = record { digits = digits; few = few; value = refl }

-- a number of at most four digits fits sixteen bits
pub fits_short : (n most : ℕ) → n < 10 ^ most → most ≤ 4 → n < 65536
fits_short n most small few = omega (arith, small, pow-le-pow_right {n = 10} (omega arith) {i = most} {j = 4} few)

-- a field writes one number
pub number_unique : (most : ℕ) (field : List ℕ) (a b : ℕ) → IsNumber most field a → IsNumber most field b → a ≡ b
number_unique most field a b p q = p.value ∙ sym q.value

-- a field is one reel
pub reel_unique : (field : List ℕ) (a b : Reel) → IsReel field a → IsReel field b → a ≡ b
reel_unique field Black Black p q = refl
reel_unique field Black (Named name) p q = absurd (q.0.not_black p)
reel_unique field (Named name) Black p q = absurd (p.0.not_black q)
reel_unique field (Named a) (Named b) p q = ap Named (p.1 ∙ sym q.1)

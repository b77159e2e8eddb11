-- Numbers as RFC 8259, section 6, writes them, and the fractions that they stand for.
use Rattle.std.specs.Prelude.{◌≡◌, ◌⊎◌, ℕ, ◌+◌, ◌*◌, ◌^◌, ◌<◌, ◌≤◌, ◌==◌, Bool, true, false, cond, ℤ, pos, neg_ℤ, ◌*ℤ◌, List, [], ◌∷◌, ◌++◌, length, reverse, slice_index}
use Rattle.std.specs.Char.{digit_value}
use Rattle.std.specs.Str.Parse.{AllDigits, digits_value}

-- a number's parts: a minus or none, the digits before the point, those behind it, and the exponent
-- with what stands before its digits
pub record Numeral : Type 0 where
  pub neg : Bool
  pub whole : List ℕ
  pub decimals : List ℕ
  pub mark : List ℕ
  pub down : Bool
  pub power : List ℕ

-- minus: `-` or nothing
abbrev pub minus : Bool → List ℕ
minus true = 45 ∷ []
minus false = []

-- int: one digit, or several of which the first is not `0`
pub record IsInt (digits : List ℕ) : Type 0 where
  pub some : 0 < length digits
  pub all : AllDigits 10 digits
  pub lead : slice_index digits 0 ≡ 48 → length digits ≡ 1

-- frac: nothing, or a point and digits
abbrev pub frac : List ℕ → List ℕ
frac [] = []
frac (d ∷ ds) = 46 ∷ d ∷ ds

-- a text that does not go on with a digit
abbrev pub StopsDigits : List ℕ → Type 0
StopsDigits rest = 0 < length rest → 10 ≤ digit_value (slice_index rest 0)

-- one digit or more
pub record AreDigits (digits : List ℕ) : Type 0 where
  pub some : 0 < length digits
  pub all : AllDigits 10 digits

-- exp: nothing, or `e` or `E`, then `+`, `-` or no sign, then digits
pub data IsExp (mark : List ℕ) (down : Bool) (power : List ℕ) : Type 0 where
  absent : mark ≡ [] → down ≡ false → power ≡ [] → IsExp mark down power
  plain : (letter : ℕ) → (letter ≡ 101) ⊎ (letter ≡ 69) → mark ≡ letter ∷ [] → down ≡ false
      → AreDigits power → IsExp mark down power
  raised : (letter : ℕ) → (letter ≡ 101) ⊎ (letter ≡ 69) → mark ≡ letter ∷ 43 ∷ [] → down ≡ false
      → AreDigits power → IsExp mark down power
  lowered : (letter : ℕ) → (letter ≡ 101) ⊎ (letter ≡ 69) → mark ≡ letter ∷ 45 ∷ [] → down ≡ true
      → AreDigits power → IsExp mark down power

-- digits, perhaps behind `+` or `-`
pub data IsSigned (text : List ℕ) : Type 0 where
  bare : AreDigits text → IsSigned text
  behind : (sign : ℕ) (digits : List ℕ) → (sign ≡ 43) ⊎ (sign ≡ 45) → text ≡ sign ∷ digits
      → AreDigits digits → IsSigned text

-- an exponent, or nothing
pub record IsExponent (text : List ℕ) : Type 0 where
  pub mark : List ℕ
  pub down : Bool
  pub power : List ℕ
  pub spelled : text ≡ mark ++ power
  pub exp : IsExp mark down power

-- what may follow int: frac, then exp
pub record IsTail (text : List ℕ) : Type 0 where
  pub digits : List ℕ
  pub rest : List ℕ
  pub spelled : text ≡ frac digits ++ rest
  pub decimals : AllDigits 10 digits
  pub exponent : IsExponent rest

-- the text is that of a number of these parts
pub record Spells (text : List ℕ) (number : Numeral) : Type 0 where
  pub spelled : text ≡ minus number.neg
      ++ (number.whole ++ (frac number.decimals ++ (number.mark ++ number.power)))
  pub int : IsInt number.whole
  pub decimals : AllDigits 10 number.decimals
  pub exp : IsExp number.mark number.down number.power

-- the text is a number of JSON
abbrev pub IsNumeral : List ℕ → Type 0
IsNumeral text = (number : Numeral) × Spells text number

-- a fraction, not always in lowest terms
pub record Fraction : Type 0 where
  pub top : ℤ
  pub bottom : ℕ

-- two fractions are equal
abbrev pub IsSame : Fraction → Fraction → Type 0
IsSame a b = (a.top *ℤ pos b.bottom) ≡ (b.top *ℤ pos a.bottom)

-- n, or -n
abbrev pub signed : Bool → ℕ → ℤ
signed false n = pos n
signed true n = neg_ℤ (pos n)

-- the fraction that a number stands for
abbrev pub fraction : Numeral → Fraction
fraction number = record {
  top = signed number.neg (digits_value 10 (number.whole ++ number.decimals)
      * 10 ^ cond number.down 0 (digits_value 10 number.power));
  bottom = 10 ^ (length number.decimals + cond number.down (digits_value 10 number.power) 0);
}

-- the digits without the zeros at their front
abbrev pub after_zeros : List ℕ → List ℕ
after_zeros [] = []
after_zeros (d ∷ ds) = cond (d == 48) (after_zeros ds) (d ∷ ds)

-- how many digits stand from the first that is not 0 to the last that is not 0
abbrev pub significant : List ℕ → ℕ
significant ds = length (after_zeros (reverse (after_zeros ds)))

-- more than 38 digits from the first to the last that is not 0, or more than three in the exponent
abbrev pub IsTooLong : Numeral → Type 0
IsTooLong number = (38 < significant (number.whole ++ number.decimals)) ⊎ (3 < length number.power)

-- The numerals of a JSON value, and what they spell.
use Rattle.std.specs.Prelude.{◌≡◌, ℕ, List}
use Rattle.std.specs.List.{Contains}
use Rattle.json_value.specs.declared.Json.{Json}
use Rattle.json_value.specs.declared.Json.TheVariants.{Num, List as JsonOfList, Map}
use Rattle.tick_time.specs.declared.decimals.Decimal.{Decimal}
use Rattle.tick_time.specs.Decimals.{decimal_value}
use Rattle.tick_time.specs.Numerals.{Numeral, Fraction, Spells, IsNumeral, IsSame, IsTooLong, fraction}

-- the value itself, or one that stands in it at any level
pub data IsWithin : Json → Json → Type 0 where
  itself : (value : Json) → IsWithin value value
  item : (value inner : Json) (items : List Json) (member : Json) → value ≡ JsonOfList items
      → Contains items member → IsWithin member inner → IsWithin value inner
  member : (value inner : Json) (members : List (List ℕ × Json)) (name : List ℕ) (member : Json)
      → value ≡ Map members
      → Contains members (name, member) → IsWithin member inner → IsWithin value inner

-- each numeral in the value is one of JSON (RFC 8259, section 6)
abbrev pub HasNumerals : Json → Type 0
HasNumerals value = (text : List ℕ) → IsWithin value (Num text) → IsNumeral text

-- the fraction of a decimal
abbrev pub value_of_decimal : Decimal → Fraction
value_of_decimal d = decimal_value d.neg d.digits d.exp

-- the text spells the decimal
pub record IsSpelled (text : List ℕ) (decimal : Decimal) : Type 0 where
  pub number : Numeral
  pub spells : Spells text number
  pub same : IsSame (value_of_decimal decimal) (fraction number)
  pub short : IsTooLong number → ⊥

-- the text spells a number of more than 38 digits from the first to the last that is not 0, or of
-- more than three in its exponent
pub record IsLong (text : List ℕ) : Type 0 where
  pub number : Numeral
  pub spells : Spells text number
  pub long : IsTooLong number

-- Numerals of values that were read, and of what they are upgraded to.
use Rattle.std.specs.Prelude.{◌≡◌, ℕ, List}
use Rattle.json_value.specs.declared.Json.{Json}
use Rattle.json_text.specs.Grammar.{text_of}
use Rattle.schema_up.specs.Upgrades.{upgraded}
use Rattle.schema_rows.specs.Numerals.{HasNumerals}

-- each numeral in a value that a text denotes is one of JSON
abbrev pub ReadHasNumerals : Type 0
ReadHasNumerals = (bytes : List ℕ) (value : Json) → text_of bytes value → HasNumerals value

-- and so is each one in what the value is upgraded to
abbrev pub UpgradedHasNumerals : Type 0
UpgradedHasNumerals = (bytes : List ℕ) (value : Json) → text_of bytes value
    → HasNumerals (upgraded value)

-- a value that was read, once upgraded, is left as it is by another upgrade
abbrev pub UpgradedStays : Type 0
UpgradedStays = (bytes : List ℕ) (value : Json) → text_of bytes value
    → upgraded (upgraded value) ≡ upgraded value

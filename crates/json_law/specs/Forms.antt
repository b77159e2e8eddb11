-- The two definitions of a number of RFC 8259, section 6, agree.
use Rattle.std.specs.Prelude.{◌↔◌, ℕ, List}
use Rattle.json_text.specs.Numeral.{IsJsonNumeral}
use Rattle.tick_time.specs.Numerals.{IsNumeral}

-- the numerals of JSON values and the numbers that exact times are read from are the same texts
abbrev pub HaveOneForm : Type 0
HaveOneForm = (spelled : List ℕ) → IsJsonNumeral spelled ↔ IsNumeral spelled

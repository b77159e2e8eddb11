-- Numbers and reels, as one field of a line spells them.
use Rattle.std.specs.Prelude.{◌≡◌, ◌≤◌, ℕ, List, codes, length}
use Rattle.std.specs.Str.Parse.{IsNumeral, digits_value}
use Rattle.text_lines.specs.ReelNames.{IsReelName}
use Rattle.edl_text.specs.Statements.{Reel, Black, Named}

-- how many digits the number of an event has at most
abbrev pub event_digits : ℕ
event_digits = 6

-- how many digits the duration of a dissolve or wipe has at most
abbrev pub duration_digits : ℕ
duration_digits = 3

-- how many digits the code of a wipe has
abbrev pub code_digits : ℕ
code_digits = 3

-- how many digits stand at most before the point of a speed
abbrev pub speed_digits : ℕ
speed_digits = 3

-- one digit or more, at most so many, that write this number
pub record IsNumber (most : ℕ) (field : List ℕ) (number : ℕ) : Type 0 where
  pub digits : IsNumeral 10 field
  pub few : length field ≤ most
  pub value : number ≡ digits_value 10 field

-- the field is this reel: `BL` is black, and another name is the name of a reel
abbrev pub IsReel : List ℕ → Reel → Type 0
IsReel field Black = field ≡ codes "BL"
IsReel field (Named name) = IsReelName field × (name ≡ field)

-- Numbers and starts, each as one field of a line spells it.
use Rattle.std.specs.Prelude.{◌≡◌, ◌≤◌, ◌⊎◌, ℕ, ℤ, pos, true, false, List, Option, Some, length, if◌then◌else◌}
use Rattle.std.specs.Option.{option_map}
use Rattle.std.specs.Str.Parse.{IsNumeral as IsDigits, digits_value}
use Rattle.tick_time.specs.declared.rates.Rate.{Rate}
use Rattle.smpte_tc.specs.Frames.{label_frame}
use Rattle.smpte_tc.specs.Words.{is_label_form}

-- how many digits a number has at most
abbrev pub most_digits : ℕ
most_digits = 18

-- one digit or more, at most as many as a number has; zeros may stand first
pub record IsNumber (field : List ℕ) : Type 0 where
  pub digits : IsDigits 10 field
  pub few : length field ≤ most_digits

-- the form of a start: a number, or that of a label (SMPTE ST 12-1)
abbrev pub IsStartForm : List ℕ → Type 0
IsStartForm field = IsNumber field ⊎ (is_label_form field ≡ true)

-- The frame number that a start says at a rate: a number says itself, and a label the frame that it
-- names there, with drop-frame where `;` stands before its frames; none where it names no frame.
abbrev pub start_frame : Rate → List ℕ → Option ℤ
start_frame rate field =
    if is_label_form field
    then option_map pos (label_frame rate false field)
    else Some (pos (digits_value 10 field))

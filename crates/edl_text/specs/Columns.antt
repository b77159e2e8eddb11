-- Columns of a CMX 3600 line, and what stands in them.
use Rattle.std.specs.Prelude.{◌==◌, ◌≤◌, ◌||◌, ◌+◌, ◌-◌, ◌/◌, ◌%◌, ℕ, zero, suc, ℤ, Bool, cond, nat_lt, List, [], ◌∷◌, ◌++◌, codes, length, map, replicate, slice_get, unwrap_or, option_and_then, unsigned_abs}
use Rattle.text_lines.specs.Lines.{trimmed}
use Rattle.tick_time.specs.declared.rates.Rate.{Rate}
use Rattle.smpte_tc.specs.Modes.{mode_of}
use Rattle.smpte_tc.specs.Day.{labels_of}
use Rattle.edl_list.specs.Limits.{most_number}
use Rattle.edl_list.specs.declared.layout.Layout.{Layout}
use Rattle.edl_list.specs.declared.list.Channel.{Channel}
use Rattle.edl_list.specs.declared.list.Channel.TheVariants.{V, A, A2}
use Rattle.edl_list.specs.declared.list.Reel.{Reel}
use Rattle.edl_list.specs.declared.list.Reel.TheVariants.{Black, Named}
use Rattle.edl_list.specs.declared.list.Cross.{Cross}
use Rattle.edl_list.specs.declared.list.Cross.TheVariants.{Cut, Dissolve, Wipe}

-- how many digits a wipe code, a duration and the whole part of a speed have
abbrev pub code_width : ℕ
code_width = 3

abbrev pub duration_width : ℕ
duration_width = 3

abbrev pub speed_width : ℕ
speed_width = 3

-- how wide the columns of channels and types are
abbrev pub channel_width : ℕ
channel_width = 5

abbrev pub kind_width : ℕ
kind_width = 4

-- the widths that a layout can have: of numbers from one digit to six, and of reels from the two
-- bytes of black to 32
pub record AreWidths (layout : Layout) : Type 0 where
  pub some : 1 ≤ layout.number_width
  pub few : layout.number_width ≤ 6
  pub black : 2 ≤ layout.reel_width
  pub short : layout.reel_width ≤ 32

-- so many spaces
abbrev pub spaces : ℕ → List ℕ
spaces n = replicate n 32

-- a text at the left of a column of this width
abbrev pub column : ℕ → List ℕ → List ℕ
column width text = text ++ spaces (width - length text)

-- the last so many decimal digits of a number
abbrev pub digits : ℕ → ℕ → List ℕ
digits zero n = []
digits (suc width) n = digits width (n / 10) ++ (48 + n % 10) ∷ []

-- a reel, of which black is `BL`
abbrev pub reel_text : Reel → List ℕ
reel_text Black = codes "BL"
reel_text (Named name) = name

abbrev pub channel_text : Channel → List ℕ
channel_text V = codes "V"
channel_text A = codes "A"
channel_text A2 = codes "A2"

-- the type of an event: a cut, a dissolve, or a wipe with its code
abbrev pub kind_text : Cross → List ℕ
kind_text Cut = codes "C"
kind_text (Dissolve frames from) = codes "D"
kind_text (Wipe code frames from) = codes "W" ++ digits code_width code

-- the duration of an event, of which a cut has none
abbrev pub duration_text : Cross → List ℕ
duration_text Cut = []
duration_text (Dissolve frames from) = digits duration_width frames
duration_text (Wipe code frames from) = digits duration_width frames

-- the wipe code and the duration have at most three digits
abbrev pub HasSmallNumbers : Cross → Type 0
HasSmallNumbers Cut = Unit {0}
HasSmallNumbers (Dissolve frames from) = frames ≤ most_number
HasSmallNumbers (Wipe code frames from) = (code ≤ most_number) × (frames ≤ most_number)

-- the columns of the type and of the duration
abbrev pub kind_column : Cross → List ℕ
kind_column cross = column kind_width (kind_text cross)

abbrev pub duration_column : Cross → List ℕ
duration_column cross = column duration_width (duration_text cross)

-- the label of a frame number of the day at a rate, with drop-frame or without (SMPTE ST 12-1)
unfoldable pub label_text : Rate → Bool → ℤ → List ℕ
label_text rate drop n =
    unwrap_or (option_and_then (λ mode. slice_get (labels_of mode) (unsigned_abs n))
    (mode_of rate drop)) []

-- a byte below 0x20 or 0x7F is a control byte
abbrev pub is_control : ℕ → Bool
is_control b = nat_lt b 32 || (b == 127)

-- a byte of a name or title as it is written
abbrev pub written_byte : ℕ → ℕ
written_byte b = cond (is_control b) 32 b

-- a name or title as it is written: each control byte as a space, and no spaces at the ends
unfoldable pub cleaned : List ℕ → List ℕ
cleaned text = trimmed (map written_byte text)

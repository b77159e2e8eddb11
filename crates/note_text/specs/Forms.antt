-- What a line says as a note: a locator, or a color correction (ASC CDL). The forms are a profile
-- of the usual comments of CMX 3600 lists.
use Rattle.std.specs.Prelude.{◌≡◌, ◌≢◌, ◌⊎◌, ◌≤◌, ℕ, ℤ, pos, Bool, false, List, [], ◌∷◌, ◌++◌, Some, codes, length, All, IsUtf8}
use Rattle.text_lines.specs.First.{AreBlanks, HasNoBlank, HasNone, begins_with_blank}
use Rattle.text_lines.specs.Lines.{fields_of}
use Rattle.tick_time.specs.declared.rates.Rate.{Rate}
use Rattle.tick_time.specs.Numerals.{IsNumeral}
use Rattle.smpte_tc.specs.Frames.{label_frame}
use Rattle.edl_text.specs.Notes.{IsBehind}
use Rattle.note_text.specs.declared.notes.Triple.{Triple}
use Rattle.note_text.specs.declared.notes.Said.{Said}
use Rattle.note_text.specs.declared.notes.Said.TheVariants.{Loc, Sop, Sat}

-- All words here speak of a line without the spaces and tabs at its ends.

-- the line begins with the word, after it stand blanks or none, and after them the rest, which
-- begins with none
pub record IsAfter (word line rest : List ℕ) : Type 0 where
  pub blanks : List ℕ
  pub are_blanks : AreBlanks blanks
  pub ends : begins_with_blank rest ≡ false
  pub is : line ≡ word ++ (blanks ++ rest)

-- the first word of a line, which goes up to the first blank, and what stands after the blanks that
-- follow it; without a blank the word is the line
pub data IsFirstWord (line word rest : List ℕ) : Type 0 where
  last : HasNoBlank line → word ≡ line → rest ≡ [] → IsFirstWord line word rest
  more : HasNoBlank word → IsBehind word line rest → IsFirstWord line word rest

-- a color: one to seven letters from A to Z
pub record IsColor (color : List ℕ) : Type 0 where
  pub some : color ≢ []
  pub few : length color ≤ 7
  pub letters : All (λ b. (65 ≤ b) × (b ≤ 90)) color

-- After the star stand `LOC` and a colon, then the label of a frame, a color, and a name, which may
-- be empty, with blanks between. The label is one of the day at the rate, in the frame code mode in
-- force, and the name is UTF-8.
pub record IsLocator (rate : Rate) (drop : Bool) (line : List ℕ) (at : ℤ)
    (color name : List ℕ) : Type 0 where
  pub word : List ℕ
  pub is_word : IsAfter (codes "LOC") line word
  pub said : List ℕ
  pub colon : IsAfter (codes ":") word said
  pub label : List ℕ
  pub behind : List ℕ
  pub first : IsFirstWord said label behind
  pub frame : ℕ
  pub names : label_frame rate drop label ≡ Some frame
  pub at_is : at ≡ pos frame
  pub second : IsFirstWord behind color name
  pub is_color : IsColor color
  pub utf8 : IsUtf8 name

-- three numerals of JSON with blanks between (RFC 8259)
pub record AreNumerals (text : List ℕ) (triple : Triple) : Type 0 where
  pub fields : fields_of text ≡ triple.r ∷ triple.g ∷ triple.b ∷ []
  pub r : IsNumeral triple.r
  pub g : IsNumeral triple.g
  pub b : IsNumeral triple.b

-- three numerals in parentheses, and what stands after the blanks that follow them
pub record IsTriple (text : List ℕ) (triple : Triple) (rest : List ℕ) : Type 0 where
  pub inner : List ℕ
  pub behind : List ℕ
  pub is : text ≡ codes "(" ++ (inner ++ (codes ")" ++ behind))
  pub unclosed : HasNone 41 inner
  pub numerals : AreNumerals inner triple
  pub blanks : List ℕ
  pub are_blanks : AreBlanks blanks
  pub ends : begins_with_blank rest ≡ false
  pub behind_is : behind ≡ blanks ++ rest

-- After the star stand `ASC_SOP`, a colon or none, and three times three numerals: slope, offset
-- and power.
pub record IsCorrection (line : List ℕ) (slope offset power : Triple) : Type 0 where
  pub word : List ℕ
  pub is_word : IsAfter (codes "ASC_SOP") line word
  pub slopes : List ℕ
  pub colon : IsAfter (codes ":") word slopes ⊎ (slopes ≡ word)
  pub offsets : List ℕ
  pub powers : List ℕ
  pub is_slope : IsTriple slopes slope offsets
  pub is_offset : IsTriple offsets offset powers
  pub is_power : IsTriple powers power []

-- after the star stand `ASC_SAT` and a numeral, with a colon between or at least one blank
pub data IsSaturation (line numeral : List ℕ) : Type 0 where
  coloned : (word : List ℕ) → IsAfter (codes "ASC_SAT") line word
      → IsAfter (codes ":") word numeral → IsNumeral numeral → IsSaturation line numeral
  spaced : IsBehind (codes "ASC_SAT") line numeral → IsNumeral numeral
      → IsSaturation line numeral

-- what stands after the star says this
abbrev pub IsNoteBehind : Rate → Bool → List ℕ → Said → Type 0
IsNoteBehind rate drop line (Loc at color name) = IsLocator rate drop line at color name
IsNoteBehind rate drop line (Sop slope offset power) = IsCorrection line slope offset power
IsNoteBehind rate drop line (Sat numeral) = IsSaturation line numeral

-- the line says this as a note, at a rate and in a frame code mode
pub record IsNote (rate : Rate) (drop : Bool) (line : List ℕ) (said : Said) : Type 0 where
  pub rest : List ℕ
  pub star : IsAfter (codes "*") line rest
  pub is : IsNoteBehind rate drop rest said

-- What a line of a CMX 3600 list says by its form alone, and the faults of a line that says
-- nothing.
use Rattle.std.specs.Prelude.{◌≡◌, ◌≢◌, ◌⊎◌, ◌==◌, ◌||◌, ℕ, Bool, true, false, List, [], ◌∷◌, ◌++◌, codes}
use Rattle.std.specs.Char.{is_ascii_digit, is_ascii_alphabetic}
use Rattle.text_lines.specs.Lines.{fields_of, trimmed}
use Rattle.edl_text.specs.Statements.{Statement, Nothing, Title, Mode, Event, Speed, FromName, ToName}
use Rattle.edl_text.specs.EventForms.{IsEvent}
use Rattle.edl_text.specs.Speeds.{IsSpeed}
use Rattle.edl_text.specs.Notes.{IsNote, IsName}
use Rattle.edl_text.specs.declared.statement_types.LineFault.{LineFault}
use Rattle.edl_text.specs.declared.statement_types.LineFault.TheVariants.{Key, Split, Form}

-- All words here but `Says` and `HasFault` speak of a line without the spaces and tabs at its ends.

-- whether a digit stands at the front
abbrev pub begins_with_digit : List ℕ → Bool
begins_with_digit [] = false
begins_with_digit (b ∷ line) = is_ascii_digit b

-- whether `*`, `>` or a letter, A to Z or a to z, stands at the front
abbrev pub begins_remark : List ℕ → Bool
begins_remark [] = false
begins_remark (b ∷ line) = (b == 42) || ((b == 62) || is_ascii_alphabetic b)

-- the first field, and nothing where there is none
abbrev pub first_of : List (List ℕ) → List ℕ
first_of [] = []
first_of (field ∷ fields) = field

-- the fourth field, and nothing where there is none
abbrev pub fourth_of : List (List ℕ) → List ℕ
fourth_of (number ∷ reel ∷ channels ∷ fields) = first_of fields
fourth_of _ = []

-- the title is what follows `TITLE:` at once, without the spaces and tabs at both ends
pub record IsTitle (line title : List ℕ) : Type 0 where
  pub text : List ℕ
  pub is : line ≡ codes "TITLE:" ++ text
  pub trims : title ≡ trimmed text

-- the fields of a line of the frame code mode
abbrev pub IsMode : List (List ℕ) → Bool → Type 0
IsMode fields true = fields ≡ codes "FCM:" ∷ codes "DROP" ∷ codes "FRAME" ∷ []
IsMode fields false =
    (fields ≡ codes "FCM:" ∷ codes "NON-DROP" ∷ codes "FRAME" ∷ [])
    ⊎ (fields ≡ codes "FCM:" ∷ codes "NON" ∷ codes "DROP" ∷ codes "FRAME" ∷ [])

-- the type of a key event begins with `K`
abbrev pub IsKeyWord : List ℕ → Type 0
IsKeyWord kind = (more : List ℕ) × (kind ≡ codes "K" ++ more)

-- a key event: the line begins with a digit, and its fourth field with `K`
pub record IsKey (line : List ℕ) : Type 0 where
  pub digit : begins_with_digit line ≡ true
  pub kind : IsKeyWord (fourth_of (fields_of line))

-- a word for split edits
abbrev pub IsSplitWord : List ℕ → Type 0
IsSplitWord word = (word ≡ codes "AUD") ⊎ ((word ≡ codes "SPLIT") ⊎ (word ≡ codes "SPLIT:"))

-- a split edit, by its first field
abbrev pub IsSplit : List ℕ → Type 0
IsSplit line = IsSplitWord (first_of (fields_of line))

-- the line is neither of the mode nor of a speed, and no note names a clip in it
pub record IsFree (line : List ℕ) : Type 0 where
  pub no_mode : (drop : Bool) → IsMode (fields_of line) drop → ⊥
  pub no_speed : first_of (fields_of line) ≢ codes "M2"
  pub no_from : (text : List ℕ) → IsNote (codes "FROM") line text → ⊥
  pub no_to : (text : List ℕ) → IsNote (codes "TO") line text → ⊥

-- a line that is ignored: it begins with `*`, `>` or a letter, and is none of the other lines that
-- may begin so
pub record IsIgnored (line : List ℕ) : Type 0 where
  pub begins : begins_remark line ≡ true
  pub no_title : (text : List ℕ) → line ≢ codes "TITLE:" ++ text
  pub free : IsFree line
  pub no_split : IsSplit line → ⊥

-- what a line without spaces and tabs at its ends says
abbrev pub SaysTight : List ℕ → Statement → Type 0
SaysTight line Nothing = (line ≡ []) ⊎ IsIgnored line
SaysTight line (Title title) = IsTitle line title
SaysTight line (Mode drop) = IsMode (fields_of line) drop
SaysTight line (Event event) = IsEvent (fields_of line) event
SaysTight line (Speed speed) = IsSpeed (fields_of line) speed
SaysTight line (FromName name) = IsName (codes "FROM") line name
SaysTight line (ToName name) = IsName (codes "TO") line name

-- what a line says
abbrev pub Says : List ℕ → Statement → Type 0
Says line statement = SaysTight (trimmed line) statement

-- the line says nothing that a list may say, and is neither a key event nor a split edit
pub record IsOther (line : List ℕ) : Type 0 where
  pub silent : (statement : Statement) → SaysTight line statement → ⊥
  pub no_key : IsKey line → ⊥
  pub no_split : IsSplit line → ⊥

-- the fault of a line without spaces and tabs at its ends
abbrev pub FaultTight : List ℕ → LineFault → Type 0
FaultTight line Key = IsKey line
FaultTight line Split = IsSplit line
FaultTight line Form = IsOther line

-- the fault of a line
abbrev pub HasFault : List ℕ → LineFault → Type 0
HasFault line fault = FaultTight (trimmed line) fault

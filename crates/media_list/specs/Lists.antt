-- The media list that bytes are, or their first fault.
use Rattle.std.specs.Prelude.{◌≡◌, ◌≤◌, ◌<◌, ◌+◌, ◌++◌, ◌⊎◌, ℕ, List, [], ◌∷◌, length}
use Rattle.limits.specs.Limits.{most_bytes}
use Rattle.text_lines.specs.Lines.{lines_of}
use Rattle.media_rows.specs.Rows.{AreRows}
use Rattle.media_rows.specs.declared.row.MediaRow.{MediaRow}
use Rattle.media_list.specs.Lines.{LineSays, IsLineFault}
use Rattle.media_list.specs.declared.faults.MediaFault.{MediaFault}
use Rattle.media_list.specs.declared.faults.MediaFault.TheVariants.{Large}

-- the lines say the rows, in order: each line says those that it says
abbrev pub LinesSay : List (List ℕ) → List MediaRow → Type 0
LinesSay [] rows = rows ≡ []
LinesSay (line ∷ lines) rows = (here : List MediaRow) × (others : List MediaRow)
    × (rows ≡ here ++ others) × LineSays line here × LinesSay lines others

-- the bytes are this media list
pub record IsMediaList (bytes : List ℕ) (rows : List MediaRow) : Type 0 where
  pub small : length bytes ≤ most_bytes
  pub say : LinesSay (lines_of bytes) rows
  pub apart : AreRows rows

-- the lines before one are right, and this is the fault of that one
pub record IsFirstFault (lines : List (List ℕ)) (fault : MediaFault) : Type 0 where
  pub before : List (List ℕ)
  pub line : List ℕ
  pub behind : List (List ℕ)
  pub split : lines ≡ before ++ line ∷ behind
  pub rows : List MediaRow
  pub say : LinesSay before rows
  pub apart : AreRows rows
  pub wrong : IsLineFault rows (length before + 1) line fault

-- the fault of the bytes: that there are too many comes before the fault of any line
abbrev pub IsFault : List ℕ → MediaFault → Type 0
IsFault bytes fault = ((fault ≡ Large) × (most_bytes < length bytes))
    ⊎ ((length bytes ≤ most_bytes) × IsFirstFault (lines_of bytes) fault)

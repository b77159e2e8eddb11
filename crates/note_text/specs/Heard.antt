-- What the lines of a list say as notes.
use Rattle.std.specs.Prelude.{◌≡◌, ℕ, List, [], ◌∷◌}
use Rattle.text_lines.specs.Lines.{trimmed}
use Rattle.tick_time.specs.declared.rates.Rate.{Rate}
use Rattle.edl_text.specs.Statements.{Statement, Nothing}
use Rattle.edl_text.specs.Saying.{Says}
use Rattle.edl_text.specs.Past.{Block, mode_in, blocks_in}
use Rattle.note_text.specs.Forms.{IsNote}
use Rattle.note_text.specs.declared.notes.Heard.{Heard}

-- The line is a note after lines that say these statements, the latest first: an event line stands
-- before it, and it says this as a note at the rate, in the frame code mode in force.
pub record IsHeard (rate : Rate) (past : List Statement) (line : List ℕ) (heard : Heard)
    : Type 0 where
  pub block : Block
  pub before : List Block
  pub latest : blocks_in past ≡ block ∷ before
  pub line_is : heard.line ≡ block.line
  pub note : IsNote rate (mode_in past) (trimmed line) heard.said

-- the notes that lines say after lines that say these statements, in their order: those that the
-- reader of lists ignores and that are notes
pub data AreHeard (rate : Rate) : List Statement → List (List ℕ) → List Heard → Type 0 where
  end : (past : List Statement) → AreHeard rate past [] []
  note : (past : List Statement) (line : List ℕ) (lines : List (List ℕ)) (heard : Heard)
      (more : List Heard) → Says line Nothing → IsHeard rate past line heard
      → AreHeard rate (Nothing ∷ past) lines more
      → AreHeard rate past (line ∷ lines) (heard ∷ more)
  other : (past : List Statement) (line : List ℕ) (lines : List (List ℕ)) (statement : Statement)
      (more : List Heard) → Says line statement
      → (statement ≡ Nothing → (heard : Heard) → IsHeard rate past line heard → ⊥)
      → AreHeard rate (statement ∷ past) lines more
      → AreHeard rate past (line ∷ lines) more

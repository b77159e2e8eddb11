-- What the reader of notes keeps of the lines that it has taken.
use Rattle.std.specs.Prelude.{◌≡◌, ◌⊎◌, ℕ, Bool, List, [], ◌∷◌, ◌++◌, Option, Some, None, length}
use Rattle.tick_time.specs.declared.rates.Rate.{Rate}
use Rattle.edl_text.specs.Statements.{Statement}
use Rattle.edl_text.specs.Past.{Block, mode_in, blocks_in}
use Rattle.note_text.specs.Forms.{IsNote}
use Rattle.note_text.specs.Heard.{AreHeard}
use Rattle.note_text.specs.declared.notes.Said.{Said}
use Rattle.note_text.specs.declared.notes.Heard.{Heard}
use Rattle.note_text.specs.declared.hearing.Hearing.{Hearing}

-- the line of the latest event line
abbrev pub latest_line : List Block → Option ℕ
latest_line [] = None
latest_line (block ∷ before) = Some block.line

-- what is kept is what the lines say so far, which say these statements: whichever lines follow
-- them, with what those say as notes it is what all say
pub record Hears (rate : Rate) (past : List Statement) (lines : List (List ℕ))
    (hearing : Hearing) : Type 0 where
  pub counted : hearing.rate ≡ rate
  pub line : hearing.line ≡ length past
  pub drop : hearing.drop ≡ mode_in past
  pub latest : hearing.event_line ≡ latest_line (blocks_in past)
  pub heard : (more : List (List ℕ)) (others : List Heard) → AreHeard rate past more others
      → AreHeard rate [] (lines ++ more) (hearing.heard.items ++ others)

-- what a line without blanks at its ends, which a list ignores, adds to the notes heard after an
-- event line
abbrev pub Adds : Rate → Bool → List ℕ → Option ℕ → List Heard → List Heard → Type 0
Adds rate drop line None old new = new ≡ old
Adds rate drop line (Some at) old new =
    (((said : Said) → IsNote rate drop line said → ⊥) × (new ≡ old))
    ⊎ ((said : Said) × IsNote rate drop line said
    × (new ≡ old ++ record { line = at; said = said } ∷ []))

-- such a line was taken
pub record Takes (old new : Hearing) (text : List ℕ) : Type 0 where
  pub rate : new.rate ≡ old.rate
  pub line : new.line ≡ old.line
  pub drop : new.drop ≡ old.drop
  pub latest : new.event_line ≡ old.event_line
  pub adds : Adds old.rate old.drop text old.event_line old.heard.items new.heard.items

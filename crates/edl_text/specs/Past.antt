-- What the lines before one say. A list of statements has the latest first, and so has each list of
-- blocks.
use Rattle.std.specs.Prelude.{ℕ, suc, Bool, false, List, [], ◌∷◌, Option, Some, None, length, unwrap_or}
use Rattle.edl_text.specs.Statements.{Statement, EventLine, Title, Mode, Event}

-- the number of the line behind these
abbrev pub line_behind : List Statement → ℕ
line_behind past = suc (length past)

-- whether drop-frame mode is in force: as the latest `FCM` line says, and non-drop where there is
-- none
abbrev pub mode_in : List Statement → Bool
mode_in [] = false
mode_in (Mode drop ∷ past) = drop
mode_in (said ∷ past) = mode_in past

-- the first title
abbrev pub title_in : List Statement → Option (List ℕ)
title_in [] = None
title_in (Title title ∷ past) = Some (unwrap_or (title_in past) title)
title_in (said ∷ past) = title_in past

-- An event line: its number among the lines, whether drop-frame mode is in force there, what it
-- says, and what is said behind it, up to the next event line.
pub record Block : Type 0 where
  pub line : ℕ
  pub drop : Bool
  pub says : EventLine
  pub notes : List Statement

-- the event line behind these lines
abbrev pub block_behind : List Statement → EventLine → Block
block_behind past event =
    record { line = line_behind past; drop = mode_in past; says = event; notes = [] }

-- the latest event line has one more note
abbrev pub noted : Statement → List Block → List Block
noted said [] = []
noted said (block ∷ blocks) = record block { notes = said ∷ block.notes } ∷ blocks

-- the event lines, each with what is said behind it
abbrev pub blocks_in : List Statement → List Block
blocks_in [] = []
blocks_in (Event event ∷ past) = block_behind past event ∷ blocks_in past
blocks_in (said ∷ past) = noted said (blocks_in past)

-- whether drop-frame mode is in force at the first event line, where there is one
abbrev pub first_mode_in : List Statement → Option Bool
first_mode_in [] = None
first_mode_in (Event event ∷ past) = Some (unwrap_or (first_mode_in past) (mode_in past))
first_mode_in (said ∷ past) = first_mode_in past

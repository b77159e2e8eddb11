-- What a reader of a list was fed.
use Rattle.std.specs.Prelude.{◌≡◌, ◌⊎◌, ◌≤◌, ℕ, List, [], ◌++◌, length, Some, None}
use Rattle.limits.specs.Limits.{most_bytes}
use Rattle.text_lines.specs.First.{HasNone}
use Rattle.text_lines.specs.Lines.{ended_lines, last_line}
use Rattle.tick_time.specs.declared.rates.Rate.{Rate}
use Rattle.edl_text.specs.Statements.{Statement}
use Rattle.edl_text.specs.declared.faults.EdlFault.{EdlFault}
use Rattle.edl_text.specs.declared.reader.EdlReader.{EdlReader}
use Rattle.edl_text.specs.Lines.{AreSound}
use Rattle.edl_text.specs.Lists.{IsEarlyFault}
use Rattle.edl_text.specs.StateSaid.{Stands}

-- The reader was fed these bytes of a list at that rate, in whatever pieces, and met no fault.
pub record HasRead (rate : Rate) (bytes : List ℕ) (reader : EdlReader) : Type 0 where
  pub past : List Statement
  pub ended : AreSound rate [] (ended_lines bytes) past
  pub few : length past ≤ length bytes
  pub stands : Stands rate past reader.said
  pub held : reader.held.items ≡ last_line bytes
  pub unended : HasNone 10 reader.held.items
  pub sound : reader.fault ≡ None
  pub taken : length bytes ≡ reader.taken

-- The reader goes on: fed these bytes before, it was fed the piece behind them after.
abbrev pub GoesOn : List ℕ → EdlReader → EdlReader → Type 0
GoesOn piece old new =
    (rate : Rate) (bytes : List ℕ) → HasRead rate bytes old → HasRead rate (bytes ++ piece) new

-- With the piece the bytes are few enough for a list, and none of them shows a fault.
abbrev pub StaysLive : List ℕ → EdlReader → Type 0
StaysLive piece old = (rate : Rate) (bytes : List ℕ) → HasRead rate bytes old
    → (length (bytes ++ piece) ≤ most_bytes)
    × ((fault : EdlFault) → IsEarlyFault rate (bytes ++ piece) fault → ⊥)

-- The reader met this fault.
abbrev pub HasFailed : EdlFault → EdlReader → Type 0
HasFailed fault reader = reader.fault ≡ Some fault

-- The reader was fed bytes of a list at some rate and met no fault, or it met a fault.
abbrev pub HasReadOrFailed : EdlReader → Type 0
HasReadOrFailed reader = ((rate : Rate) × (bytes : List ℕ) × HasRead rate bytes reader)
    ⊎ ((fault : EdlFault) × HasFailed fault reader)

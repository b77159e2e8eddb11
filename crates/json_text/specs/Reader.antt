-- What a reader of JSON text was fed.
use Rattle.std.specs.Prelude.{◌≡◌, ◌⊎◌, ℕ, ◌≤◌, List, [], ◌++◌, Some, None, Ok, length}
use Rattle.limits.specs.Limits.{most_bytes}
use Rattle.json_text.specs.declared.faults.JsonFault.{JsonFault}
use Rattle.json_text.specs.declared.reader.JsonReader.{JsonReader}
use Rattle.json_text.specs.Grammar.{IsLive}
use Rattle.json_text.specs.State.Machine.{start, run}
use Rattle.json_text.specs.State.Stands.{state_of}

-- The reader was fed these bytes, in whatever pieces, and met no fault.
pub record HasRead (bytes : List ℕ) (reader : JsonReader) : Type 0 where
  pub ran : run 127 start bytes ≡ Ok (state_of reader.machine)
  pub sound : reader.fault ≡ None
  pub taken : length bytes ≡ reader.taken
  pub few : length bytes ≤ most_bytes
  pub ready : reader.room ≡ None → bytes ≡ []

-- The reader was fed the piece behind what it was fed before.
abbrev pub ReadsOn : JsonReader → List ℕ → JsonReader → Type 0
ReadsOn old piece new = (bytes : List ℕ) → HasRead bytes old → HasRead (bytes ++ piece) new

-- With the piece behind them, the bytes that the reader was fed go on to a text and are few enough.
abbrev pub StaysLive : JsonReader → List ℕ → Type 0
StaysLive old piece = (bytes : List ℕ) → HasRead bytes old
    → IsLive (bytes ++ piece) × (length (bytes ++ piece) ≤ most_bytes)

-- The reader met this fault.
abbrev pub HasFailed : JsonFault → JsonReader → Type 0
HasFailed fault reader = reader.fault ≡ Some fault

-- The reader was fed bytes and met no fault, or it met a fault.
abbrev pub HasReadOrFailed : JsonReader → Type 0
HasReadOrFailed reader = ((bytes : List ℕ) × HasRead bytes reader)
    ⊎ ((fault : JsonFault) × HasFailed fault reader)

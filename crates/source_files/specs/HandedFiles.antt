-- What the calls of a device gave while files were read, and what was made of it, whatever is known
-- of the device.
use Rattle.std.specs.Prelude.{◌≡◌, ◌⊎◌, ◌<◌, ◌≤◌, ◌++◌, ◌∷◌, [], ℕ, List, Result, Ok, Err, length, map}
use Rattle.std.specs.List.{concat}
use Rattle.limits.specs.Limits.{piece_bytes}
use Rattle.dev_io.specs.Handed.{Handed, Found, Missing, Unopened, Gave, Broke}
use Rattle.source_files.specs.Formats.{Holds, Refuses, IsCalm}
use Rattle.source_files.specs.Reading.{Source, IsRefused, read_as}
use Rattle.source_files.specs.Kinds.{Kind}
use Rattle.source_files.specs.Contents.{Content}
use Rattle.source_files.specs.declared.read_faults.ReadFault.{ReadFault}
use Rattle.source_files.specs.declared.read_faults.ReadFault.TheVariants.{Absent, Failed, Refused}
use Rattle.source_files.specs.declared.read_faults.SourceFault.{SourceFault}

-- the calls after some others
abbrev pub HandsOver : (List Handed → Type 0) → List Handed → List Handed → Type 0
HandsOver Are old new = (calls : List Handed) × (new ≡ old ++ calls) × Are calls

-- ---- the file in hand

-- what one read gives of a file: at least one byte, and no more than are asked for at once
pub record IsPiece (piece : List ℕ) : Type 0 where
  pub some : 0 < length piece
  pub few : length piece ≤ piece_bytes

-- each of the pieces was read when the bytes before it, after these, showed no fault
abbrev pub AreJudged : (List ℕ → Type 0) → List ℕ → List (List ℕ) → Type 0
AreJudged Calm taken [] = Unit {0}
AreJudged Calm taken (piece ∷ pieces) =
    Calm taken × IsPiece piece × AreJudged Calm (taken ++ piece) pieces

-- the calls gave these bytes, piece by piece
pub record Took (Calm : List ℕ → Type 0) (bytes : List ℕ) (calls : List Handed) : Type 0 where
  pub pieces : List (List ℕ)
  pub each : AreJudged Calm [] pieces
  pub whole : bytes ≡ concat pieces
  pub are : calls ≡ map Gave pieces

-- the calls gave these bytes, which show no fault, and then this
pub record TookThen (Calm : List ℕ → Type 0) (last : Handed) (bytes : List ℕ)
    (calls : List Handed) : Type 0 where
  pub front : List Handed
  pub took : Took Calm bytes front
  pub calm : Calm bytes
  pub are : calls ≡ front ++ last ∷ []

-- What the calls gave that read the file in hand, and what was made of it. A file that is what it
-- is read as was read to its end. One that is none was read to its end too, or up to a piece with
-- which it is none however it goes on. A read that failed came after bytes that show no fault.
-- Nothing was read after any of these. Out of memory is free.
abbrev pub GivesHand : {T : Type 0} → (List ℕ → T → Type 0) → (List ℕ → List ℕ → Type 0)
    → (List ℕ → Type 0) → Result T ReadFault → List Handed → Type 0
GivesHand Is Not Calm (Ok value) calls =
    (bytes : List ℕ) × TookThen Calm (Gave []) bytes calls × Is bytes value
GivesHand Is Not Calm (Err Absent) calls = ⊥
GivesHand Is Not Calm (Err Failed) calls = (bytes : List ℕ) × TookThen Calm Broke bytes calls
GivesHand Is Not Calm (Err (Refused refusal)) calls = (bytes : List ℕ)
    × ((TookThen Calm (Gave []) bytes calls × IsRefused (Not bytes) refusal)
    ⊎ (Took Calm bytes calls × ((rest : List ℕ) → IsRefused (Not (bytes ++ rest)) refusal)))

-- the same of a file that is read as this
abbrev pub GivesAs : Kind → Result Content ReadFault → List Handed → Type 0
GivesAs kind result calls = GivesHand (Holds kind) (Refuses kind) (IsCalm kind) result calls

-- ---- files by their names

-- The calls that opened a file once and read it, and what was made of it: there is none of that
-- name, opening it failed, or it was read.
pub data GivesFile (source : Source) (result : Result Content ReadFault)
    (calls : List Handed) : Type 0 where
  Gone : result ≡ Err Absent → calls ≡ Missing source.name ∷ [] → GivesFile source result calls
  Shut : result ≡ Err Failed → calls ≡ Unopened source.name ∷ [] → GivesFile source result calls
  Opened : (more : List Handed) → calls ≡ Found source.name ∷ more
      → GivesAs source.kind result more → GivesFile source result calls

-- the calls opened the file of that name; or why it isn't opened, whatever it is read as
abbrev pub GivesOpened : {T : Type 0} → List ℕ → Result T ReadFault → List Handed → Type 0
GivesOpened name (Ok _) calls = calls ≡ Found name ∷ []
GivesOpened name (Err fault) calls =
    (kind : Kind) → GivesFile (read_as name kind) (Err fault) calls

-- the calls read the files, one after another, and each is this
abbrev pub GivesAll : List Source → List Content → List Handed → Type 0
GivesAll [] [] calls = calls ≡ []
GivesAll [] (content ∷ contents) calls = ⊥
GivesAll (source ∷ sources) [] calls = ⊥
GivesAll (source ∷ sources) (content ∷ contents) calls = (first : List Handed)
    × (more : List Handed) × (calls ≡ first ++ more) × GivesFile source (Ok content) first
    × GivesAll sources contents more

-- the calls read the files up to the first that isn't read, of this name, and this is why; each
-- before it was read
abbrev pub GivesStop : List Source → List ℕ → ReadFault → List Handed → Type 0
GivesStop [] name fault calls = ⊥
GivesStop (source ∷ sources) name fault calls =
    ((name ≡ source.name) × GivesFile source (Err fault) calls)
    ⊎ ((content : Content) × (first : List Handed) × (more : List Handed)
    × (calls ≡ first ++ more) × GivesFile source (Ok content) first
    × GivesStop sources name fault more)

-- what the calls gave that read files: what these hold, as it is made of what was read, or the
-- first that isn't read, and why
abbrev pub GivesFiles : {T : Type 0} → List Source → (T → List Content) → Result T SourceFault
    → List Handed → Type 0
GivesFiles sources contents (Ok value) calls = GivesAll sources (contents value) calls
GivesFiles sources contents (Err stop) calls = GivesStop sources stop.name.now stop.fault calls

-- What reading files gives: what they hold, or why the first that isn't read is not.
use Rattle.std.specs.Prelude.{◌≡◌, ℕ, List, ◌++◌, Some, None, Result, Ok, Err, map}
use Rattle.std.specs.declared.option.Option.{Option}
use Rattle.dev_io.specs.Known.{LastFailure, NoFailure, OpenHeld, OpenMissing, ReadOf}
use Rattle.dev_io.specs.Causes.{Rose}
use Rattle.source_files.specs.Reasons.{reason_text}
use Rattle.source_files.specs.Order.{EachIs}
use Rattle.source_files.specs.Formats.{Holds, Refuses, IsCalm}
use Rattle.source_files.specs.Kinds.{Kind}
use Rattle.source_files.specs.Contents.{Content}
use Rattle.source_files.specs.declared.read_faults.Refusal.{Refusal}
use Rattle.source_files.specs.declared.read_faults.Refusal.TheVariants.{Broken, Memory}
use Rattle.source_files.specs.declared.read_faults.ReadFault.{ReadFault}
use Rattle.source_files.specs.declared.read_faults.ReadFault.TheVariants.{Absent, Failed, Refused}
use Rattle.source_files.specs.declared.read_faults.SourceFault.{SourceFault}

-- what each name holds
abbrev pub Held : Type 0
Held = List ℕ → Option (List ℕ)

-- a file that is read: its name and what it is read as
pub record Source : Type 0 where
  pub name : List ℕ
  pub kind : Kind

-- a file of that name that is read as this
abbrev pub read_as : List ℕ → Kind → Source
read_as name kind = record { name = name; kind = kind }

-- the names of files
abbrev pub names_of : List Source → List (List ℕ)
names_of sources = map (λ source. source.name) sources

-- the file holds this
pub record IsRead (held : Held) (source : Source) (content : Content) : Type 0 where
  pub bytes : List ℕ
  pub there : held source.name ≡ Some bytes
  pub holds : Holds source.kind bytes content

-- the files hold these, one after another
abbrev pub AreRead : Held → List Source → List Content → Type 0
AreRead held sources contents = EachIs (IsRead held) sources contents

-- The last failed call was one of opening this file, or a read of it after bytes that show no
-- fault; opening a file that isn't there is kept without its name.
abbrev pub IsFailureOf : Source → Option (List ℕ) → LastFailure → Type 0
IsFailureOf source bytes NoFailure = ⊥
IsFailureOf source bytes (OpenHeld name) = name ≡ source.name
IsFailureOf source bytes OpenMissing = bytes ≡ None
IsFailureOf source bytes (ReadOf name left) =
    (name ≡ source.name)
    × ((taken : List ℕ) × (bytes ≡ Some (taken ++ left)) × IsCalm source.kind taken)

-- what is refused is refused for such a reason; out of memory is free
abbrev pub IsRefused : (List ℕ → Type 0) → Refusal → Type 0
IsRefused Why (Broken reason) = Why (reason_text reason)
IsRefused Why Memory = Unit {0}

-- this file has bytes that are refused so
abbrev pub IsRefusedIn : Held → Source → List ℕ → Type 0
IsRefusedIn held source why =
    (bytes : List ℕ) × (held source.name ≡ Some bytes) × Refuses source.kind bytes why

-- why the file isn't read
abbrev pub IsUnread : Held → LastFailure → Source → ReadFault → Type 0
IsUnread held last source Absent = held source.name ≡ None
IsUnread held last source Failed = IsFailureOf source (held source.name) last
IsUnread held last source (Refused refusal) = IsRefused (IsRefusedIn held source) refusal

-- why the file of that name isn't read
abbrev pub IsStopped : Held → LastFailure → ReadFault → Source → List ℕ → Type 0
IsStopped held last fault source name = (name ≡ source.name) × IsUnread held last source fault

-- what was read, as what a file holds
abbrev pub held_as : {T : Type 0} → (T → Content) → Result T ReadFault → Result Content ReadFault
held_as content (Ok value) = Ok (content value)
held_as content (Err fault) = Err fault

-- the count of the files rose where a call failed, and stands otherwise
abbrev pub RaisedBy : ReadFault → ℕ → ℕ → Type 0
RaisedBy Absent before now = now ≡ before
RaisedBy Failed before now = Rose before now
RaisedBy (Refused refusal) before now = now ≡ before

abbrev pub Raised : {T : Type 0} → Result T ReadFault → ℕ → ℕ → Type 0
Raised (Ok _) before now = now ≡ before
Raised (Err fault) before now = RaisedBy fault before now

abbrev pub RaisedAt : {T : Type 0} → Result T SourceFault → ℕ → ℕ → Type 0
RaisedAt (Ok _) before now = now ≡ before
RaisedAt (Err stop) before now = RaisedBy stop.fault before now

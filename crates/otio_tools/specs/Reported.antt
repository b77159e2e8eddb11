-- What a run reports on its stream of messages, whatever is known of its devices.
use Rattle.std.specs.Prelude.{◌≡◌, ◌⊎◌, ℕ, List, [], Some, None}
use Rattle.std.specs.declared.option.Option.{Option}
use Rattle.dev_io.specs.Causes.{Rose}
use Rattle.source_files.specs.Order.{IsAmong}
use Rattle.source_files.specs.Reading.{names_of}
use Rattle.source_files.specs.Reasons.{reason_text}
use Rattle.source_files.specs.declared.reasons.Reason.{Reason}
use Rattle.otio_tools.specs.Asked.{Asked, Asks}
use Rattle.otio_tools.specs.Forms.{absent, message_of, read_failed, usage_text}
use Rattle.otio_tools.specs.Run.{Streams, Message, no_memory, output_failed}
use Rattle.otio_tools.specs.declared.Status.{Status}
use Rattle.otio_tools.specs.declared.Status.TheVariants.{Done, Usage, Refused, Input, Output, Memory}

-- the arguments ask for a file of this name
pub record AsksFor (words : List (List ℕ)) (name : List ℕ) : Type 0 where
  pub asked : Asked
  pub asks : Asks words asked
  pub among : IsAmong (names_of asked.files) name

-- A file wasn't read: it isn't there, and no call of the files failed; or a call failed. `before`
-- and `now` are the files' counts of faults.
abbrev pub ReportsUnread : List ℕ → (before now : ℕ) → Streams → Type 0
ReportsUnread name before now d =
    ((now ≡ before) × Message (absent name).message d)
    ⊎ (Rose before now × Message (read_failed name) d)

-- the message under each status
abbrev pub Reports : List (List ℕ) → (before now : ℕ) → Streams → Status → Type 0
Reports words before now d Done = Message [] d
Reports words before now d Usage = Message usage_text d
Reports words before now d Refused = (name : List ℕ) × (reason : Reason) × AsksFor words name
    × Message (message_of name (reason_text reason)) d
Reports words before now d Input =
    (name : List ℕ) × AsksFor words name × ReportsUnread name before now d
Reports words before now d Output = Message output_failed d
Reports words before now d Memory = Message no_memory d

-- a fault of a command on one file is told of that file or of the script
abbrev pub IsToldOf : List ℕ → Option (List ℕ) → List ℕ → Type 0
IsToldOf name None told = told ≡ name
IsToldOf name (Some script) told = (told ≡ name) ⊎ (told ≡ script)

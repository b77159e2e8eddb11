-- How a run may end over files whose content is known.
use Rattle.std.specs.Prelude.{◌≡◌, ◌⊎◌, ℕ, List}
use Rattle.dev_io.specs.Known.{KnownFiles}
use Rattle.dev_io.specs.Causes.{Rose}
use Rattle.source_files.specs.Order.{FirstIsNot}
use Rattle.source_files.specs.Reading.{Held, IsRead, IsStopped}
use Rattle.source_files.specs.declared.read_faults.ReadFault.TheVariants.{Failed}
use Rattle.otio_tools.specs.Asked.{Asked, Asks}
use Rattle.otio_tools.specs.Forms.{Answer, read_failed}
use Rattle.otio_tools.specs.Answer.{Answers}
use Rattle.otio_tools.specs.Run.{AsksFrames, HasMixedRows, Streams, Sends, SendsNothing, Directs, DirectsFront, DirectsPrefix, Message, OutFailed, no_memory, output_failed}
use Rattle.otio_tools.specs.declared.Status.{Status}
use Rattle.otio_tools.specs.declared.Status.TheVariants.{Done, Usage, Refused, Input, Output, Memory}

-- the run gave the answer to its words and files, under this status
pub record Gives (words : List (List ℕ)) (held : Held) (d : Streams)
    (result : Status) : Type 0 where
  pub answer : Answer
  pub owed : Answers words held answer
  pub status : answer.status ≡ result
  pub output : Sends (Directs answer.target answer.output) d
  pub message : Message answer.message d

-- The answer was an output, and the stream of output failed: a prefix was sent.
pub record Stops (words : List (List ℕ)) (held : Held) (d : Streams) : Type 0 where
  pub answer : Answer
  pub owed : Answers words held answer
  pub status : answer.status ≡ Done
  pub failed : OutFailed d
  pub output : Sends (DirectsPrefix answer.target answer.output) d
  pub message : Message output_failed d

-- The answer was an output, the rows of frames, one of which shows a mix, and memory ran out over
-- them: a prefix was sent.
pub record Breaks (words : List (List ℕ)) (held : Held) (d : Streams) : Type 0 where
  pub frames : AsksFrames words
  pub answer : Answer
  pub owed : Answers words held answer
  pub status : answer.status ≡ Done
  pub mixed : HasMixedRows answer.output
  pub output : Sends (DirectsFront answer.target answer.output) d

-- Opening or reading the file of that name failed, each file before it holds what it is read as,
-- and nothing was sent.
pub record FailsToRead (words : List (List ℕ)) (before now : ℕ) (old new : KnownFiles)
    (d : Streams) : Type 0 where
  pub asked : Asked
  pub asks : Asks words asked
  pub name : List ℕ
  pub first : FirstIsNot (IsRead old.held) (IsStopped old.held new.last Failed) asked.files
      name
  pub failed : Rose before now
  pub output : Sends SendsNothing d
  pub message : Message (read_failed name) d

-- How a run over such files may end. `before` and `now` are the files' counts of failed calls.
abbrev pub Ends : List (List ℕ) → ℕ → ℕ → Streams → Status → KnownFiles → KnownFiles → Type 0
Ends words before now d Done old new = Gives words old.held d Done
Ends words before now d Usage old new = Gives words old.held d Usage
Ends words before now d Refused old new = Gives words old.held d Refused
Ends words before now d Input old new =
    (Gives words old.held d Input × (now ≡ before)) ⊎ FailsToRead words before now old new d
Ends words before now d Output old new = Stops words old.held d
Ends words before now d Memory old new =
    (Sends SendsNothing d ⊎ Breaks words old.held d) × Message no_memory d

-- Where no count of faults rose, the status is that of the answer, or there was no memory.
abbrev pub Completes : List (List ℕ) → ℕ → ℕ → Streams → Status → KnownFiles → Type 0
Completes words before now d result old = (answer : Answer) → Answers words old.held answer
    → (Rose before now → ⊥) → (OutFailed d → ⊥)
    → (result ≡ answer.status) ⊎ (result ≡ Memory)

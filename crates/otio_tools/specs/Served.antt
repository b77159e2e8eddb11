-- How a run ends by what the calls of its files gave, whatever is known of its devices.
use Rattle.std.specs.Prelude.{◌≡◌, ℕ, List, [], Result, Ok, Err}
use Rattle.std.specs.declared.option.Option.{Option}
use Rattle.dev_io.specs.Causes.{Rose}
use Rattle.dev_io.specs.Handed.{Handed}
use Rattle.source_files.specs.HandedFiles.{GivesAll, GivesStop}
use Rattle.source_files.specs.Reasons.{reason_text}
use Rattle.source_files.specs.Contents.{Content}
use Rattle.source_files.specs.declared.reasons.Reason.{Reason}
use Rattle.source_files.specs.declared.read_faults.Refusal.TheVariants.{Broken, Memory as NoMemory}
use Rattle.source_files.specs.declared.read_faults.ReadFault.TheVariants as fault
use Rattle.source_files.specs.declared.read_faults.SourceFault.{SourceFault}
use Rattle.command_words.specs.Asked.{AskNothing}
use Rattle.command_words.specs.Drills.{AsksDrill}
use Rattle.otio_tools.specs.Asked.{Asked, Asks}
use Rattle.otio_tools.specs.Forms.{Answer, absent, read_failed, refused, usage}
use Rattle.otio_tools.specs.Answer.{AnswersDrill, AnswersHeld}
use Rattle.otio_tools.specs.Plan.{LeavesWork, PlansHeld}
use Rattle.otio_tools.specs.Run.{AsksFrames, HasMixedRows, Streams, Sends, SendsNothing, Directs, DirectsFront, DirectsPrefix, Message, OutFailed, no_memory, output_failed}
use Rattle.otio_tools.specs.declared.Status.{Status}
use Rattle.otio_tools.specs.declared.Status.TheVariants.{Done, Usage, Refused, Input, Output, Memory}
use Rattle.otio_tools.specs.declared.planning.Planned.{Planned}

-- ---- what is planned

-- Why nothing is to be sent: what the files hold, one of which the calls didn't read, or that
-- memory ran out before any was opened.
pub data GivesNoPlan (asked : Asked) (stop : SourceFault) (calls : List Handed) : Type 0 where
  judged : (contents : List Content) → GivesAll asked.files contents calls
      → PlansHeld asked.command asked.files contents (Err stop) → GivesNoPlan asked stop calls
  stopped : GivesStop asked.files stop.name.now stop.fault calls → GivesNoPlan asked stop calls
  unopened : stop.fault ≡ fault.Refused NoMemory → calls ≡ [] → GivesNoPlan asked stop calls

-- what is planned by what the calls gave: they read all files, and it is what is to be sent for
-- what these hold, and left on the desk; or there is nothing to send
abbrev pub PlansGiven : Asked → Result Planned SourceFault → List Handed → Type 0
PlansGiven asked (Ok planned) calls = (contents : List Content)
    × GivesAll asked.files contents calls
    × PlansHeld asked.command asked.files contents (Ok planned)
    × LeavesWork asked.command contents planned
PlansGiven asked (Err stop) calls = GivesNoPlan asked stop calls

-- ---- the answer

-- The answer to what is asked of files, by what the calls gave of them: to what they hold, where
-- each is what it is read as; else to the first of them that is absent, or is none.
pub data AnswersCalls (asked : Asked) (calls : List Handed) (answer : Answer) : Type 0 where
  ByContents : (contents : List Content) → GivesAll asked.files contents calls
      → AnswersHeld asked.command asked.files asked.target contents answer
      → AnswersCalls asked calls answer
  ByAbsence : (name : List ℕ) → GivesStop asked.files name fault.Absent calls
      → answer ≡ absent name → AnswersCalls asked calls answer
  ByFault : (name : List ℕ) (reason : Reason)
      → GivesStop asked.files name (fault.Refused (Broken reason)) calls
      → answer ≡ refused name (reason_text reason) → AnswersCalls asked calls answer

-- The answer to the arguments and to the bytes that the calls gave. For a drill, and for arguments
-- that ask for nothing, no file is opened.
pub data AnswersGiven (words : List (List ℕ)) (calls : List Handed) (answer : Answer) : Type 0 where
  AskedNothing : AskNothing words → calls ≡ [] → answer ≡ usage → AnswersGiven words calls answer
  AskedFiles : (asked : Asked) → Asks words asked → AnswersCalls asked calls answer
      → AnswersGiven words calls answer
  AskedDrill : (seed count : ℕ) (target : Option (List ℕ)) → AsksDrill words seed count target
      → calls ≡ [] → AnswersDrill seed count target answer → AnswersGiven words calls answer

-- ---- how a run ends

-- the output and the message are those of the answer
abbrev pub SendsWhole : Answer → Streams → Status → Type 0
SendsWhole answer d result = (answer.status ≡ result)
    × Sends (Directs answer.target answer.output) d × Message answer.message d

-- What is sent of the answer under each status: all of it under its own. Under `Output` the stream
-- failed, and under `Memory` memory ran out over the rows of frames, one of which shows a mix: a
-- prefix was sent.
abbrev pub SendsAnswer : List (List ℕ) → Answer → Streams → Status → Type 0
SendsAnswer words answer d Done = SendsWhole answer d Done
SendsAnswer words answer d Usage = SendsWhole answer d Usage
SendsAnswer words answer d Refused = SendsWhole answer d Refused
SendsAnswer words answer d Input = SendsWhole answer d Input
SendsAnswer words answer d Output = (answer.status ≡ Done) × OutFailed d
    × Sends (DirectsPrefix answer.target answer.output) d × Message output_failed d
SendsAnswer words answer d Memory = (answer.status ≡ Done) × AsksFrames words
    × HasMixedRows answer.output × Sends (DirectsFront answer.target answer.output) d
    × Message no_memory d

-- the calls read no file, all files that are asked for, or those up to one over which memory ran
-- out
pub data ReadsSome (words : List (List ℕ)) (calls : List Handed) : Type 0 where
  no_file : calls ≡ [] → ReadsSome words calls
  all_files : (asked : Asked) → Asks words asked → (contents : List Content)
      → GivesAll asked.files contents calls → ReadsSome words calls
  some_files : (asked : Asked) → Asks words asked → (name : List ℕ)
      → GivesStop asked.files name (fault.Refused NoMemory) calls → ReadsSome words calls

-- How a run ends by the arguments and by what the calls of its files gave: with the answer to
-- these, unless a call of the files failed, or memory ran out. `before` and `now` are the files'
-- counts of failed calls.
pub data Serves (words : List (List ℕ)) (before now : ℕ) (d : Streams) (result : Status)
    (calls : List Handed) : Type 0 where
  Answered : (answer : Answer) → AnswersGiven words calls answer → now ≡ before
      → SendsAnswer words answer d result → Serves words before now d result calls
  CallFailed : (asked : Asked) → Asks words asked → (name : List ℕ)
      → GivesStop asked.files name fault.Failed calls → Rose before now → result ≡ Input
      → Sends SendsNothing d → Message (read_failed name) d → Serves words before now d result calls
  RanOut : ReadsSome words calls → now ≡ before → result ≡ Memory → Sends SendsNothing d
      → Message no_memory d → Serves words before now d result calls

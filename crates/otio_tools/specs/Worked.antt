-- What an edit leaves on the desk.
use Rattle.std.specs.Prelude.{◌≡◌, ℕ, List, Some}
use Rattle.std.specs.declared.option.Option.{Option}
use Rattle.dev_io.specs.Handed.{Handed}
use Rattle.dev_io.specs.Known.{KnownFiles}
use Rattle.source_files.specs.HandedFiles.{GivesAll}
use Rattle.source_files.specs.Reading.{Source, AreRead}
use Rattle.source_files.specs.Contents.{Content}
use Rattle.command_words.specs.Asked.{Ask, OtherNames}
use Rattle.command_words.specs.Drills.{AskNoDrill}
use Rattle.command_words.specs.declared.requests.Command.{Command}
use Rattle.otio_tools.specs.Asked.{EditsTimeline, files_of}
use Rattle.otio_tools.specs.Plan.{IsWorkHeld}
use Rattle.otio_tools.specs.declared.Desk.{Desk}
use Rattle.otio_tools.specs.declared.Status.{Status}
use Rattle.otio_tools.specs.declared.Status.TheVariants.{Done, Usage, Refused, Input, Output, Memory}

-- The files are a timeline, or a list that conforms to one, and a script, and the desk holds what
-- the script's commands lead to from that timeline, with its log.
pub record IsWorkOf (AreHeld : List Content → Type 0) (command : Command)
    (on_desk : Option Desk) : Type 0 where
  pub contents : List Content
  pub held : AreHeld contents
  pub desk : Desk
  pub is : on_desk ≡ Some desk
  pub work : IsWorkHeld command contents desk

-- it does so for arguments that ask for an edit
abbrev pub WorksOn : List (List ℕ) → Option Desk → (List Source → List Content → Type 0) → Type 0
WorksOn words on_desk AreHeld =
    (command : Command) (name : List ℕ) (others : OtherNames) (target : Option (List ℕ))
    → EditsTimeline command → Ask words command name others target
    → IsWorkOf (AreHeld (files_of command name others)) command on_desk

-- what a run leaves where it is done, or where its output isn't taken
abbrev pub LeavesDesk : List (List ℕ) → Status → Option Desk
    → (List Source → List Content → Type 0) → Type 0
LeavesDesk words Done on_desk AreHeld = WorksOn words on_desk AreHeld
LeavesDesk words Output on_desk AreHeld = WorksOn words on_desk AreHeld
LeavesDesk words Usage on_desk AreHeld = Unit {0}
LeavesDesk words Refused on_desk AreHeld = Unit {0}
LeavesDesk words Input on_desk AreHeld = Unit {0}
LeavesDesk words Memory on_desk AreHeld = Unit {0}

-- by what the calls gave of the files
abbrev pub LeavesGiven : List (List ℕ) → Status → Option Desk → List Handed → Type 0
LeavesGiven words result on_desk calls =
    LeavesDesk words result on_desk (λ files contents. GivesAll files contents calls)

-- by what is known of them
abbrev pub LeavesKnown : List (List ℕ) → Status → Option Desk → KnownFiles → Type 0
LeavesKnown words result on_desk old =
    LeavesDesk words result on_desk (λ files contents. AreRead old.held files contents)

-- the words ask for no edit
abbrev pub AskNoEdit : List (List ℕ) → Type 0
AskNoEdit words = (command : Command) (name : List ℕ) (others : OtherNames)
    (target : Option (List ℕ)) → EditsTimeline command → Ask words command name others target → ⊥

-- the words ask for nothing that is left on the desk
pub record AskNoWork (words : List (List ℕ)) : Type 0 where
  pub no_edit : AskNoEdit words
  pub no_drill : AskNoDrill words

-- The answer to a timeline whose pull list is asked for.
use Rattle.std.specs.Prelude.{◌≡◌, ◌≢◌, ◌≤◌, ℕ, List}
use Rattle.std.specs.declared.option.Option.{Option}
use Rattle.otio_model.specs.declared.timelines.Timeline.{Timeline}
use Rattle.coord.specs.Soundness.{IsFaultless, IsFaultOf}
use Rattle.coord.specs.declared.faults.CoordFault.{CoordFault}
use Rattle.coord.specs.declared.faults.CoordFault.TheVariants.{Memory}
use Rattle.source_files.specs.Faults.{coord_fault_text, pull_frames_text}
use Rattle.pull_list.specs.Lines.{stretches_text}
use Rattle.pull_list.specs.Pulled.{IsPullList, Stretch}
use Rattle.pull_list.specs.Record.{HasTooMany}
use Rattle.command_words.specs.declared.requests.Command.{Command}
use Rattle.command_words.specs.declared.requests.Command.TheVariants.{Pull, ListPull}
use Rattle.otio_tools.specs.Forms.{Answer, done, refused}

-- a command that asks for handles asks for at most 10 000 frames of them
abbrev pub HasFewHandles : Command → Type 0
HasFewHandles (Pull handles) = handles ≤ 10000
HasFewHandles (ListPull rate handles) = handles ≤ 10000
HasFewHandles command = Unit {0}

-- The first fault of a timeline that isn't sound, told of the file of that name; then that it has
-- too many record frames; else the lines of its pull list, with so many frames on both sides of
-- each that is used.
pub data AnswersPull (handles : ℕ) (name : List ℕ) (target : Option (List ℕ)) (timeline : Timeline)
    (answer : Answer) : Type 0 where
  Unsound : (fault : CoordFault) → fault ≢ Memory → IsFaultOf timeline fault
      → answer ≡ refused name (coord_fault_text fault)
      → AnswersPull handles name target timeline answer
  Many : IsFaultless timeline → HasTooMany timeline → answer ≡ refused name pull_frames_text
      → AnswersPull handles name target timeline answer
  Told : IsFaultless timeline → (HasTooMany timeline → ⊥) → (list : List Stretch)
      → IsPullList timeline handles list → answer ≡ done target (stretches_text list)
      → AnswersPull handles name target timeline answer

-- The answer to a timeline that a script is run on, and what is left on the desk.
use Rattle.std.specs.Prelude.{◌≡◌, ◌≢◌, ℕ, List, [], length}
use Rattle.std.specs.declared.option.Option.{Option}
use Rattle.otio_model.specs.declared.timelines.Timeline.{Timeline}
use Rattle.coord.specs.Soundness.{IsFaultless, IsFaultOf}
use Rattle.coord.specs.declared.faults.CoordFault.{CoordFault}
use Rattle.coord.specs.declared.faults.CoordFault.TheVariants as coord
use Rattle.undo_log.specs.States.{State, IsKept, state_of}
use Rattle.edit_script.specs.declared.commands.ScriptCommand.{ScriptCommand}
use Rattle.edit_script.specs.Runs.{Runs, Halts}
use Rattle.edit_script.specs.Keeping.{HoldsEdits}
use Rattle.script_law.specs.Shown.{IsEditedFrom, opened}
use Rattle.edit_script.specs.declared.faults.CommandFault.{CommandFault}
use Rattle.media_rows.specs.Rows.{MediaRows}
use Rattle.edit_script.specs.declared.faults.CommandFault.TheVariants as command
use Rattle.source_files.specs.Faults.{coord_fault_text, edit_fault_text, far_command_text, undo_fault_text, unlisted_text}
use Rattle.otio_tools.specs.Forms.{Answer, done, refused}
use Rattle.otio_tools.specs.Written.{timeline_text}
use Rattle.otio_tools.specs.declared.Desk.{Desk}

-- a command that is refused, with its line
abbrev pub command_fault_text : CommandFault → List ℕ
command_fault_text (command.NoReel line) = unlisted_text line
command_fault_text (command.Line line) = far_command_text line
command_fault_text (command.Edit line fault) = edit_fault_text line fault
command_fault_text (command.Undo line fault) = undo_fault_text line fault
command_fault_text command.Memory = []

-- The first fault of a timeline that isn't sound, told of the file of that name; then the first
-- command that is refused, told of the script; else the timeline that the commands lead to.
pub data AnswersEdited (name script : List ℕ) (commands : List ScriptCommand) (media : MediaRows)
    (target : Option (List ℕ)) (timeline : Timeline) (answer : Answer) : Type 0 where
  Faulted : (fault : CoordFault) → fault ≢ coord.Memory → IsFaultOf timeline fault
      → answer ≡ refused name (coord_fault_text fault)
      → AnswersEdited name script commands media target timeline answer
  Halted : IsFaultless timeline → (state : State) (fault : CommandFault)
      → Halts media commands (opened timeline) state fault
      → answer ≡ refused script (command_fault_text fault)
      → AnswersEdited name script commands media target timeline answer
  Edited : IsFaultless timeline → (state : State)
      → Runs media commands (length commands) (opened timeline) state
      → answer ≡ done target (timeline_text state.now)
      → AnswersEdited name script commands media target timeline answer

-- The timeline and the log of a desk stand for the state that the commands lead to. Each timeline
-- of it stands for an edit of the one before, after which every frame shows what the edit's law
-- says, and undoing all edits gives the first one. Each patch of the log is that of an edit, and
-- holds few children more than the edit touches.
pub record IsWorkOn (timeline : Timeline) (commands : List ScriptCommand) (media : MediaRows)
    (desk : Desk) : Type 0 where
  pub runs : Runs media commands (length commands) (opened timeline)
      (state_of desk.log desk.timeline)
  pub shown : IsEditedFrom timeline (state_of desk.log desk.timeline)
  pub kept : IsKept desk.log desk.timeline
  pub narrow : HoldsEdits desk.log desk.timeline

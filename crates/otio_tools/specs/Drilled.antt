-- The answer to a drill, and what it leaves on the desk.
use Rattle.std.specs.Prelude.{◌≡◌, ℕ, List, [], Some, None}
use Rattle.std.specs.declared.option.Option.{Option}
use Rattle.undo_log.specs.States.{IsKept, state_of}
use Rattle.edit_script.specs.Keeping.{HoldsEdits}
use Rattle.command_words.specs.Drills.{AsksDrill}
use Rattle.drill.specs.Told.{DrillsTo}
use Rattle.drill.specs.Lines.{tally_text}
use Rattle.drill.specs.declared.tally.Tally.{Tally}
use Rattle.otio_tools.specs.Run.{Streams, Sends, SendsNothing, Directs, DirectsPrefix, Message, OutFailed, no_memory, output_failed}
use Rattle.otio_tools.specs.declared.Desk.{Desk}
use Rattle.otio_tools.specs.declared.Status.{Status}
use Rattle.otio_tools.specs.declared.Status.TheVariants.{Done, Usage, Refused, Input, Output, Memory}

-- The tally was sent to the target; or a prefix of it, and the stream failed.
abbrev pub SendsTally : Option (List ℕ) → Tally → Streams → Status → Type 0
SendsTally target tally d Done = Sends (Directs target (tally_text tally)) d × Message [] d
SendsTally target tally d Output =
    OutFailed d × Sends (DirectsPrefix target (tally_text tally)) d × Message output_failed d
SendsTally target tally d Usage = ⊥
SendsTally target tally d Refused = ⊥
SendsTally target tally d Input = ⊥
SendsTally target tally d Memory = ⊥

-- The drill came to this tally, which was sent, and the desk holds its timeline and log: they stand
-- for the state of the accepted edits and as many undos. Each patch of the log is that of an edit,
-- and holds few children more than the edit touches.
pub record IsDrilled (seed count : ℕ) (target : Option (List ℕ)) (d : Streams) (result : Status)
    (on_desk : Option Desk) : Type 0 where
  pub desk : Desk
  pub is : on_desk ≡ Some desk
  pub tally : Tally
  pub drills : DrillsTo seed count tally (state_of desk.log desk.timeline)
  pub kept : IsKept desk.log desk.timeline
  pub narrow : HoldsEdits desk.log desk.timeline
  pub sent : SendsTally target tally d result

-- memory ran out before anything was sent
pub record LeavesNothing (d : Streams) (on_desk : Option Desk) : Type 0 where
  pub desk : on_desk ≡ None
  pub output : Sends SendsNothing d
  pub message : Message no_memory d

-- how a run ends that is a drill, whatever its devices tell
abbrev pub EndsDrill : (seed count : ℕ) → Option (List ℕ) → Streams → Status → Option Desk → Type 0
EndsDrill seed count target d Done on_desk = IsDrilled seed count target d Done on_desk
EndsDrill seed count target d Output on_desk = IsDrilled seed count target d Output on_desk
EndsDrill seed count target d Usage on_desk = ⊥
EndsDrill seed count target d Refused on_desk = ⊥
EndsDrill seed count target d Input on_desk = ⊥
EndsDrill seed count target d Memory on_desk = LeavesNothing d on_desk

-- so a run ends whose words ask for a drill
abbrev pub EndsDrills : List (List ℕ) → Streams → Status → Option Desk → Type 0
EndsDrills words d result on_desk =
    (seed count : ℕ) (target : Option (List ℕ)) → AsksDrill words seed count target
    → EndsDrill seed count target d result on_desk

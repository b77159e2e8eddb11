-- How far a script has run, on a log and its timeline.
use Rattle.std.specs.Prelude.{◌≡◌, ℕ, List}
use Rattle.otio_model.specs.declared.timelines.Timeline.{Timeline}
use Rattle.undo_log.specs.Histories.{History}
use Rattle.undo_log.specs.States.{IsKept, state_of}
use Rattle.edit_script.specs.declared.commands.Act.{Act}
use Rattle.edit_script.specs.declared.commands.ScriptCommand.{ScriptCommand}
use Rattle.media_rows.specs.Rows.{MediaRows}
use Rattle.edit_script.specs.Runs.{Runs, Takes}
use Rattle.edit_script.specs.Keeping.{HoldsEdits, IsEditableState}
use Rattle.edit_script.specs.EditHistories.{EditHistory, HoldsEach, KeepsEach, RunsEach}

-- the log and the timeline stand for a state of timelines that can be edited
pub record IsReady (h : History) (t : Timeline) : Type 0 where
  pub kept : IsKept h t
  pub editable : IsEditableState (state_of h t)

-- the log k and the timeline u stand for the same state as h and t did
pub record IsSame (h : History) (t : Timeline) (k : History) (u : Timeline) : Type 0 where
  pub ready : IsReady k u
  pub state : state_of k u ≡ state_of h t
  pub holds : HoldsEdits h t → HoldsEdits k u
  pub each : (edits : EditHistory) → HoldsEach edits h t → HoldsEach edits k u

-- an act took the state of h and t to that of k and u
pub record IsDone (media : MediaRows) (act : Act) (h : History) (t : Timeline) (k : History)
    (u : Timeline)
    : Type 0 where
  pub ready : IsReady k u
  pub takes : Takes media act (state_of h t) (state_of k u)
  pub holds : HoldsEdits h t → HoldsEdits k u
  pub each : KeepsEach media act h t k u

-- the first n commands took it there
pub record HasRun
    (media : MediaRows) (script : List ScriptCommand) (n : ℕ) (h : History) (t : Timeline)
    (k : History) (u : Timeline)
    : Type 0 where
  pub ready : IsReady k u
  pub runs : Runs media script n (state_of h t) (state_of k u)
  pub holds : HoldsEdits h t → HoldsEdits k u
  pub each : RunsEach media script n h t k u

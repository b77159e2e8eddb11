-- Scripts that are run on a timeline.
use Rattle.std.proofs.Common.{◌≡◌, ◌≢◌, List, [], length, subst}
use Rattle.otio_model.specs.declared.timelines.Timeline.{Timeline}
use Rattle.coord.specs.Soundness.{IsSound}
use Rattle.undo_log.specs.Histories.{History}
use Rattle.undo_log.specs.States.{IsKept, State, state_of}
use Rattle.edit_script.specs.declared.commands.ScriptCommand as script
use Rattle.edit_script.specs.Keeping.{HoldsEdits}
use Rattle.edit_script.specs.Runs.{Halts, Runs}
use Rattle.edit_script.specs.declared.faults.CommandFault.{CommandFault}
use Rattle.media_rows.specs.Rows.{MediaRows}
use Rattle.edit_script.specs.declared.faults.CommandFault.TheVariants as command
use Rattle.source_files.specs.Reading.{IsRefused}
use Rattle.source_files.specs.declared.read_faults.Refusal.{Refusal}
use Rattle.source_files.specs.declared.read_faults.Refusal.TheVariants.{Broken, Memory}
use Rattle.script_law.specs.Shown.{opened}
use Rattle.script_law.proofs.Starting.{start_holds, start_state}
use Rattle.script_law.proofs.Steps.{commands_follow}
use Rattle.otio_tools.specs.Edited.{IsWorkOn, command_fault_text}
use Rattle.otio_tools.specs.Plan.{IsHaltOf}
use Rattle.otio_tools.specs.declared.Desk.{Desk}

-- what the commands of a script leave
pub works_on : (media : MediaRows) (commands : List script.ScriptCommand) (h : History) (t : Timeline)
    (desk : Desk) → h.past ≡ [] → h.future ≡ [] → IsSound t
    → Runs media commands (length commands) (state_of h t) (state_of desk.log desk.timeline)
    → IsKept desk.log desk.timeline → (HoldsEdits h t → HoldsEdits desk.log desk.timeline)
    → IsWorkOn t commands media desk
works_on media commands h t desk e f sound runs kept holds =
    let all = subst (λ s. Runs media commands (length commands) s
    (state_of desk.log desk.timeline)) (start_state h t e f) runs in record {
      runs = all;
      shown = commands_follow media commands (length commands) t (state_of desk.log desk.timeline)
          sound all;
      kept = kept;
      narrow = holds (start_holds h t e f);
    }

-- where a script was refused
pub halts_on : (media : MediaRows) (commands : List script.ScriptCommand) (h : History) (t : Timeline)
    (r : State) (fault : CommandFault) → h.past ≡ [] → h.future ≡ []
    → Halts media commands (state_of h t) r fault → Halts media commands (opened t) r fault
halts_on media commands h t r fault e f halts =
    subst (λ s. Halts media commands s r fault) (start_state h t e f) halts

-- how a script is refused at a command
pub halted_as : (media : MediaRows) (commands : List script.ScriptCommand) (h : History) (t : Timeline)
    (r : State) (fault : CommandFault) (refusal : Refusal) → h.past ≡ [] → h.future ≡ []
    → (fault ≢ command.Memory → Halts media commands (state_of h t) r fault)
    → IsRefused (λ why. (fault ≢ command.Memory) × (why ≡ command_fault_text fault)) refusal
    → IsRefused (IsHaltOf t commands media) refusal
halted_as media commands h t r fault (Broken reason) e f halts told =
    (r, fault, halts_on media commands h t r fault e f (halts told.0), told.1)
halted_as media commands h t r fault Memory e f halts told = tt

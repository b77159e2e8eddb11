-- From a drill to the end of a run.
use Rattle.std.proofs.Common.{◌≡◌, ℕ, List, [], Some, None, refl, sym, subst, inl, Err}
use Rattle.std.specs.declared.option.Option.{Option}
use Rattle.dev_io.specs.Handed.{Handed}
use Rattle.dev_io.specs.Calls.{Tells}
use Rattle.dev_io.specs.OutputCauses.{IsOutputCause}
use Rattle.undo_log.specs.States.{IsKept, state_of}
use Rattle.edit_script.specs.Keeping.{HoldsEdits}
use Rattle.dev_io.specs.declared.output_faults.OutputFault.{OutputFault}
use Rattle.dev_io.specs.declared.output_faults.OutputFault.TheVariants.{Sink, Memory as NoMemory}
use Rattle.source_files.specs.HandedFiles.{HandsOver, GivesAll}
use Rattle.source_files.specs.Reading.{Source}
use Rattle.source_files.specs.Contents.{Content}
use Rattle.source_files.proofs.HandedLemmas.{hands_none}
use Rattle.command_words.specs.Asked.{Ask, OtherNames}
use Rattle.command_words.specs.Drills.{AsksDrill}
use Rattle.command_words.specs.Tasks.{IsTask}
use Rattle.command_words.specs.declared.requests.Task.{Task}
use Rattle.command_words.specs.declared.requests.Command.{Command}
use Rattle.command_words.proofs.Drilling.{drill_once as drill_asked_once, not_both as never_drill}
use Rattle.drill.specs.Told.{DrillsTo}
use Rattle.drill.specs.Lines.{tally_text}
use Rattle.drill.specs.declared.tally.Tally.{Tally}
use Rattle.otio_tools.specs.Forms.{done}
use Rattle.otio_tools.specs.Answer.{AnswersDrill}
use Rattle.otio_tools.specs.Drilled.{EndsDrill, EndsDrills, IsDrilled, SendsTally}
use Rattle.otio_tools.specs.Plan.{WritesTo, message_unsent, status_unsent}
use Rattle.otio_tools.specs.Run.{Streams, Sends, SendsNothing, Message, KeepsStill, no_memory}
use Rattle.otio_tools.specs.Worked.{LeavesDesk, LeavesGiven, WorksOn}
use Rattle.otio_tools.specs.declared.Desk.{Desk}
use Rattle.otio_tools.specs.declared.Status.{Status}
use Rattle.otio_tools.specs.declared.Status.TheVariants.{Done, Usage, Refused, Input, Output, Memory}

-- what a drill told is its answer
pub tallied : (seed count : ℕ) (target : Option (List ℕ)) (d : Streams) (result : Status)
    (on_desk : Option Desk) (e : IsDrilled seed count target d result on_desk)
    → AnswersDrill seed count target (done target (tally_text e.tally))
tallied seed count target d result on_desk e = record {
  tally = e.tally;
  state = state_of e.desk.log e.desk.timeline;
  drills = e.drills;
  is = refl;
}

pub drill_still : (words : List (List ℕ)) (seed count : ℕ) (target : Option (List ℕ)) (d : Streams)
    (result : Status) (on_desk : Option Desk) → EndsDrill seed count target d result on_desk
    → KeepsStill words d result
drill_still words seed count target d Done on_desk e = tt
drill_still words seed count target d Output on_desk e = e.sent.0
drill_still words seed count target d Usage on_desk e = absurd e
drill_still words seed count target d Refused on_desk e = absurd e
drill_still words seed count target d Input on_desk e = absurd e
drill_still words seed count target d Memory on_desk e = inl e.output

pub drill_is_no_usage : (seed count : ℕ) (target : Option (List ℕ)) (d : Streams)
    (result : Status) (on_desk : Option Desk) → EndsDrill seed count target d result on_desk
    → result ≡ Usage → ⊥
drill_is_no_usage seed count target d result on_desk e same =
    subst (λ x. EndsDrill seed count target d x on_desk) same e

-- a drill is no edit
no_work : (words : List (List ℕ)) (seed count : ℕ) (target : Option (List ℕ))
    (on_desk : Option Desk) (AreHeld : List Source → List Content → Type 0)
    → AsksDrill words seed count target → WorksOn words on_desk AreHeld
no_work words seed count target on_desk AreHeld w = λ command name others aim e ask.
    absurd (never_drill words command name others seed count aim target ask w)

leaves_by : (words : List (List ℕ)) (seed count : ℕ) (target : Option (List ℕ)) (result : Status)
    (on_desk : Option Desk) (AreHeld : List Source → List Content → Type 0)
    → AsksDrill words seed count target → LeavesDesk words result on_desk AreHeld
leaves_by words seed count target Done on_desk AreHeld w =
    no_work words seed count target on_desk AreHeld w
leaves_by words seed count target Output on_desk AreHeld w =
    no_work words seed count target on_desk AreHeld w
leaves_by words seed count target Usage on_desk AreHeld w = tt
leaves_by words seed count target Refused on_desk AreHeld w = tt
leaves_by words seed count target Input on_desk AreHeld w = tt
leaves_by words seed count target Memory on_desk AreHeld w = tt

pub drill_leaves : (words : List (List ℕ)) (seed count : ℕ) (target : Option (List ℕ))
    (result : Status) (on_desk : Option Desk) (old : List Handed)
    → AsksDrill words seed count target → HandsOver (LeavesGiven words result on_desk) old old
drill_leaves words seed count target result on_desk old w =
    hands_none (LeavesGiven words result on_desk) old
    (leaves_by words seed count target result on_desk (λ files contents. GivesAll files contents [])
    w)

-- words that ask for this drill ask for no other
pub drill_alone : (words : List (List ℕ)) (seed count : ℕ) (target : Option (List ℕ))
    (d : Streams) (result : Status) (on_desk : Option Desk) → AsksDrill words seed count target
    → EndsDrill seed count target d result on_desk → EndsDrills words d result on_desk
drill_alone words seed count target d result on_desk w e = λ other tries aim v.
    let same = drill_asked_once words seed other count tries target aim w v in
    subst (λ x. EndsDrill other tries x d result on_desk) same.2
    (subst (λ x. EndsDrill other x target d result on_desk) same.1
    (subst (λ x. EndsDrill x count target d result on_desk) same.0 e))

-- a command on files is no drill
pub no_drills : (words : List (List ℕ)) (command : Command) (name : List ℕ) (others : OtherNames)
    (target : Option (List ℕ)) (d : Streams) (result : Status) (on_desk : Option Desk)
    → Ask words command name others target → EndsDrills words d result on_desk
no_drills words command name others target d result on_desk ask = λ seed count aim w.
    absurd (never_drill words command name others seed count target aim ask w)

-- how the tally was sent
pub unsent_tally : (target : Option (List ℕ)) (tally : Tally) (d : Streams) (fault : OutputFault)
    (status : Status) → IsOutputCause ⊥ d.out_before d.out_now fault
    → Tells (WritesTo {T = Unit {0}} target (tally_text tally) (Err fault)) d.out_old d.out_new
    → status ≡ status_unsent fault → Message (message_unsent fault) d
    → SendsTally target tally d status
unsent_tally target tally d Sink status cause told s m = rw s (cause, told, m)
unsent_tally target tally d NoMemory status cause told s m = absurd cause

-- a task that is known to be this one
pub task_is : (words : List (List ℕ)) (task other : Task) → task ≡ other → IsTask words task
    → IsTask words other
task_is words task other e h = subst (IsTask words) e h

-- memory ran out before the words were read
pub unread_drills : (words : List (List ℕ)) (d : Streams) (result : Status)
    (on_desk : Option Desk) → result ≡ Memory → on_desk ≡ None → Sends SendsNothing d
    → Message no_memory d → EndsDrills words d result on_desk
unread_drills words d result on_desk same empty nothing told = λ seed count aim w.
    subst (λ x. EndsDrill seed count aim d x on_desk) (sym same)
    (record { desk = empty; output = nothing; message = told })

-- a drill that was done, with what was sent of its tally
pub served : (seed count : ℕ) (target : Option (List ℕ)) (d : Streams) (result : Status)
    (on_desk : Option Desk) (desk : Desk) (tally : Tally) → on_desk ≡ Some desk
    → DrillsTo seed count tally (state_of desk.log desk.timeline)
    → IsKept desk.log desk.timeline → HoldsEdits desk.log desk.timeline
    → SendsTally target tally d result → EndsDrill seed count target d result on_desk
served seed count target d Done on_desk desk tally e p k h s = record {
  desk = desk;
  is = e;
  tally = tally;
  drills = p;
  kept = k;
  narrow = h;
  sent = s;
}
served seed count target d Output on_desk desk tally e p k h s = record {
  desk = desk;
  is = e;
  tally = tally;
  drills = p;
  kept = k;
  narrow = h;
  sent = s;
}
served seed count target d Usage on_desk desk tally e p k h s = absurd s
served seed count target d Refused on_desk desk tally e p k h s = absurd s
served seed count target d Input on_desk desk tally e p k h s = absurd s
served seed count target d Memory on_desk desk tally e p k h s = absurd s

-- From what the calls of the files gave to the end of a run.
use Rattle.std.proofs.Common.{◌≡◌, ℕ, List, [], Result, Ok, Err, IfOk, refl, subst}
use Rattle.std.specs.declared.option.Option.{Option}
use Rattle.dev_io.specs.Handed.{Handed}
use Rattle.source_files.specs.HandedFiles.{HandsOver, GivesAll, GivesStop}
use Rattle.source_files.specs.Reading.{RaisedAt, RaisedBy}
use Rattle.source_files.proofs.HandedLemmas.{hands_as, hands_none}
use Rattle.source_files.specs.Reasons.{reason_text}
use Rattle.source_files.specs.Contents.{Content}
use Rattle.source_files.specs.declared.read_faults.Refusal.TheVariants.{Broken, Memory as NoMemory}
use Rattle.source_files.specs.declared.read_faults.ReadFault.{ReadFault}
use Rattle.source_files.specs.declared.read_faults.ReadFault.TheVariants as fault
use Rattle.source_files.specs.declared.read_faults.SourceFault.{SourceFault}
use Rattle.command_words.specs.Asked.{Ask, AskNothing, OtherNames}
use Rattle.command_words.specs.Drills.{AsksDrill}
use Rattle.command_words.specs.declared.requests.Command.{Command}
use Rattle.drill.specs.Lines.{tally_text}
use Rattle.otio_tools.specs.Asked.{Asked, Asks, ListsFrames, asked_for}
use Rattle.otio_tools.specs.Answer.{AnswersHeld}
use Rattle.otio_tools.specs.Drilled.{EndsDrill}
use Rattle.otio_tools.specs.Forms.{absent, done, refused, usage}
use Rattle.otio_tools.specs.Plan.{LeavesWork, PlansHeld, IsRefusedAs, IsFor, Carries, Complains, Writes, text_planned}
use Rattle.otio_tools.specs.Run.{AsksFrames, Streams, Sends, SendsNothing, Message, no_memory}
use Rattle.otio_tools.specs.Served.{GivesNoPlan, PlansGiven, judged, stopped, unopened, ByContents, ByAbsence, ByFault, AskedNothing, AskedFiles, AskedDrill, no_file, all_files, some_files, Answered, CallFailed, RanOut, Serves}
use Rattle.otio_tools.specs.declared.Desk.{Desk}
use Rattle.otio_tools.specs.declared.Status.{Status}
use Rattle.otio_tools.specs.declared.Status.TheVariants.{Done, Usage, Refused, Input, Output, Memory}
use Rattle.otio_tools.specs.declared.planning.Planned.{Planned}
use Rattle.otio_tools.proofs.DrillEnds.{tallied}
use Rattle.otio_tools.proofs.RunEnds.{asks_for, mixed_rows, nothing_added, rows_mixed}

-- ---- what is planned

plans_by : (asked : Asked) (contents : List Content) (result : Result Planned SourceFault)
    (calls : List Handed) → PlansHeld asked.command asked.files contents result
    → IfOk result (LeavesWork asked.command contents) → GivesAll asked.files contents calls
    → PlansGiven asked result calls
plans_by asked contents (Ok planned) calls p w g = (contents, g, p, w)
plans_by asked contents (Err stop) calls p w g = judged contents g p

-- what is planned of what was read
pub given_planned : (asked : Asked) (contents : List Content)
    (result : Result Planned SourceFault) (old new : List Handed)
    → HandsOver (GivesAll asked.files contents) old new
    → PlansHeld asked.command asked.files contents result
    → IfOk result (LeavesWork asked.command contents)
    → HandsOver (PlansGiven asked result) old new
given_planned asked contents result old new h p w =
    hands_as (GivesAll asked.files contents) (PlansGiven asked result) old new
    (λ calls. plans_by asked contents result calls p w) h

-- nothing is planned where a file wasn't read
pub given_stopped : (asked : Asked) (stop : SourceFault) (old new : List Handed)
    → HandsOver (GivesStop asked.files stop.name.now stop.fault) old new
    → HandsOver (PlansGiven asked (Err stop)) old new
given_stopped asked stop old new h =
    hands_as (GivesStop asked.files stop.name.now stop.fault) (PlansGiven asked (Err stop)) old new
    (λ calls g. stopped g) h

-- nor where memory ran out before any was opened
pub given_unopened : (asked : Asked) (stop : SourceFault) (old : List Handed)
    → stop.fault ≡ fault.Refused NoMemory → HandsOver (PlansGiven asked (Err stop)) old old
given_unopened asked stop old e = hands_none (PlansGiven asked (Err stop)) old (unopened e refl)

-- ---- how a run ends

-- a command of frames that was asked for
asks_frames : (words : List (List ℕ)) (asked : Asked) → Asks words asked
    → ListsFrames asked.command → AsksFrames words
asks_frames words asked a lists = record {
  command = asked.command;
  lists = lists;
  name = a.name;
  others = a.others;
  target = asked.target;
  ask = a.ask;
}

-- what is planned of what the files hold was sent
sent_by : (words : List (List ℕ)) (asked : Asked) (before now : ℕ) (planned : Planned)
    (d : Streams) (status : Status) (calls : List Handed) (contents : List Content)
    → Asks words asked → GivesAll asked.files contents calls
    → PlansHeld asked.command asked.files contents (Ok planned) → IsFor asked.command planned
    → now ≡ before → Writes asked.target planned d status
    → Serves words before now d status calls
sent_by words asked before now planned d Done calls contents a g p k r c =
    Answered (done asked.target (text_planned planned))
    (AskedFiles asked a (ByContents contents g (p asked.target))) r (refl, c.0, c.1)
sent_by words asked before now planned d Output calls contents a g p k r c =
    Answered (done asked.target (text_planned planned))
    (AskedFiles asked a (ByContents contents g (p asked.target))) r (refl, c.0, c.1, c.2)
sent_by words asked before now planned d Memory calls contents a g p k r c =
    Answered (done asked.target (text_planned planned))
    (AskedFiles asked a (ByContents contents g (p asked.target))) r
    (refl, asks_frames words asked a (k (mixed_rows planned c.0)), rows_mixed planned c.0, c.1, c.2)
sent_by words asked before now planned d Usage calls contents a g p k r c = absurd c
sent_by words asked before now planned d Refused calls contents a g p k r c = absurd c
sent_by words asked before now planned d Input calls contents a g p k r c = absurd c

-- a file wasn't read
unread_by : (words : List (List ℕ)) (asked : Asked) (before now : ℕ) (name : List ℕ)
    (why : ReadFault) (d : Streams) (status : Status) (calls : List Handed) → Asks words asked
    → GivesStop asked.files name why calls → RaisedBy why before now
    → Complains name why d status → Serves words before now d status calls
unread_by words asked before now name fault.Absent d status calls a g r c =
    rw c.status (Answered (absent name) (AskedFiles asked a (ByAbsence name g refl)) r
    (refl, nothing_added d.out_old d.out_new c.output, c.message))
unread_by words asked before now name fault.Failed d status calls a g r c =
    rw c.status (CallFailed asked a name g r refl c.output c.message)
unread_by words asked before now name (fault.Refused (Broken reason)) d status calls a g r c =
    rw c.status (Answered (refused name (reason_text reason))
    (AskedFiles asked a (ByFault name reason g refl)) r
    (refl, nothing_added d.out_old d.out_new c.output, c.message))
unread_by words asked before now name (fault.Refused NoMemory) d status calls a g r c =
    rw c.status (RanOut (some_files asked a name g) r refl c.output c.message)

-- what the files hold was refused
refused_by : (words : List (List ℕ)) (asked : Asked) (before now : ℕ) (name : List ℕ)
    (why : ReadFault) (d : Streams) (status : Status) (calls : List Handed)
    (contents : List Content) → Asks words asked → GivesAll asked.files contents calls
    → IsRefusedAs (λ target answer. AnswersHeld asked.command asked.files target contents answer)
    name why → RaisedBy why before now → Complains name why d status
    → Serves words before now d status calls
refused_by words asked before now name fault.Absent d status calls contents a g p r c = absurd p
refused_by words asked before now name fault.Failed d status calls contents a g p r c = absurd p
refused_by words asked before now name (fault.Refused (Broken reason)) d status calls contents a g
    p r c =
    rw c.status (Answered (refused name (reason_text reason))
    (AskedFiles asked a (ByContents contents g (p asked.target))) r
    (refl, nothing_added d.out_old d.out_new c.output, c.message))
refused_by words asked before now name (fault.Refused NoMemory) d status calls contents a g p r c =
    rw c.status (RanOut (all_files asked a contents g) r refl c.output c.message)

-- memory ran out before a file was opened
unopened_by : (words : List (List ℕ)) (before now : ℕ) (name : List ℕ) (why : ReadFault)
    (d : Streams) (status : Status) (calls : List Handed) → why ≡ fault.Refused NoMemory
    → calls ≡ [] → RaisedBy why before now → Complains name why d status
    → Serves words before now d status calls
unopened_by words before now name why d status calls e none r c =
    let k = subst (λ (f : ReadFault). Complains name f d status) e c in
    rw k.status (RanOut (no_file none) (subst (λ (f : ReadFault). RaisedBy f before now) e r) refl
    k.output k.message)

stopped_by : (words : List (List ℕ)) (asked : Asked) (before now : ℕ) (stop : SourceFault)
    (d : Streams) (status : Status) (calls : List Handed) → Asks words asked
    → GivesNoPlan asked stop calls → RaisedBy stop.fault before now
    → Complains stop.name.now stop.fault d status → Serves words before now d status calls
stopped_by words asked before now stop d status calls a (judged contents g p) r c =
    refused_by words asked before now stop.name.now stop.fault d status calls contents a g p r c
stopped_by words asked before now stop d status calls a (stopped g) r c =
    unread_by words asked before now stop.name.now stop.fault d status calls a g r c
stopped_by words asked before now stop d status calls a (unopened e none) r c =
    unopened_by words before now stop.name.now stop.fault d status calls e none r c

served_by : (words : List (List ℕ)) (asked : Asked) (before now : ℕ)
    (plan : Result Planned SourceFault) (d : Streams) (status : Status) (calls : List Handed)
    → Asks words asked → PlansGiven asked plan calls
    → IfOk plan (λ planned. IsFor asked.command planned) → RaisedAt plan before now
    → Carries asked.target plan d status → Serves words before now d status calls
served_by words asked before now (Ok planned) d status calls a p k r c =
    sent_by words asked before now planned d status calls p.0 a p.1 p.2 k r c
served_by words asked before now (Err stop) d status calls a p k r c =
    stopped_by words asked before now stop d status calls a p r c

-- who plans right by what the calls gave and carries the plan out ends right
pub served : (words : List (List ℕ)) (command : Command) (name : List ℕ) (others : OtherNames)
    (target : Option (List ℕ)) (before now : ℕ) (plan : Result Planned SourceFault) (d : Streams)
    (status : Status) (old new : List Handed) → Ask words command name others target
    → HandsOver (PlansGiven (asked_for command name others target) plan) old new
    → IfOk plan (λ planned. IsFor command planned) → RaisedAt plan before now
    → Carries target plan d status → HandsOver (Serves words before now d status) old new
served words command name others target before now plan d status old new w h k r c =
    let asked = asked_for command name others target in
    hands_as (PlansGiven asked plan) (Serves words before now d status) old new
    (λ calls p. served_by words asked before now plan d status calls
    (asks_for words command name others target w) p k r c) h

-- ---- no file is opened

-- arguments that ask for nothing are answered by the usage text
pub served_usage : (words : List (List ℕ)) (before : ℕ) (d : Streams) (old : List Handed)
    → AskNothing words → Sends SendsNothing d → Message usage.message d
    → HandsOver (Serves words before before d Usage) old old
served_usage words before d old none o m = hands_none (Serves words before before d Usage) old
    (Answered usage (AskedNothing none refl refl) refl
    (refl, nothing_added d.out_old d.out_new o, m))

-- memory ran out over the arguments
pub served_unread : (words : List (List ℕ)) (before : ℕ) (d : Streams) (status : Status)
    (old : List Handed) → status ≡ Memory → Sends SendsNothing d → Message no_memory d
    → HandsOver (Serves words before before d status) old old
served_unread words before d status old e o m =
    hands_none (Serves words before before d status) old (RanOut (no_file refl) refl e o m)

drill_by : (words : List (List ℕ)) (seed count : ℕ) (target : Option (List ℕ)) (before : ℕ)
    (d : Streams) (status : Status) (on_desk : Option Desk) → AsksDrill words seed count target
    → EndsDrill seed count target d status on_desk → Serves words before before d status []
drill_by words seed count target before d Done on_desk w e =
    Answered (done target (tally_text e.tally))
    (AskedDrill seed count target w refl (tallied seed count target d Done on_desk e)) refl
    (refl, e.sent.0, e.sent.1)
drill_by words seed count target before d Output on_desk w e =
    Answered (done target (tally_text e.tally))
    (AskedDrill seed count target w refl (tallied seed count target d Output on_desk e)) refl
    (refl, e.sent.0, e.sent.1, e.sent.2)
drill_by words seed count target before d Usage on_desk w e = absurd e
drill_by words seed count target before d Refused on_desk w e = absurd e
drill_by words seed count target before d Input on_desk w e = absurd e
drill_by words seed count target before d Memory on_desk w e =
    RanOut (no_file refl) refl refl e.output e.message

-- a drill ends right
pub served_drill : (words : List (List ℕ)) (seed count : ℕ) (target : Option (List ℕ))
    (before : ℕ) (d : Streams) (status : Status) (on_desk : Option Desk) (old : List Handed)
    → AsksDrill words seed count target → EndsDrill seed count target d status on_desk
    → HandsOver (Serves words before before d status) old old
served_drill words seed count target before d status on_desk old w e =
    hands_none (Serves words before before d status) old
    (drill_by words seed count target before d status on_desk w e)

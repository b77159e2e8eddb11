-- What is planned before anything is sent, and how it is carried out.
use Rattle.std.specs.Prelude.{◌≡◌, ◌<◌, ◌^◌, ℕ, Bool, List, [], ◌∷◌, Some, None, Result, Ok, Err, All}
use Rattle.std.specs.declared.option.Option.{Option}
use Rattle.std.specs.Global.{Vec}
use Rattle.json_text.specs.Layout.{layout}
use Rattle.edl_list.specs.Formed.{IsWellFormed}
use Rattle.edl_list.specs.declared.list.EventList.{EventList}
use Rattle.edl_text.specs.Labelled.{IsFirstPast}
use Rattle.edl_text.specs.Spelling.{spelling}
use Rattle.note_text.specs.Belonging.{IsNoteOf}
use Rattle.note_text.specs.NotedSpelling.{noted_spelling}
use Rattle.note_text.specs.declared.notes.Note.{Note}
use Rattle.otio_model.specs.Counts.{count as count_below}
use Rattle.otio_model.specs.declared.timelines.Timeline.{Timeline}
use Rattle.coord.specs.Soundness.{IsFaultless}
use Rattle.undo_log.specs.States.{State}
use Rattle.edit_script.specs.Runs.{Halts}
use Rattle.edit_script.specs.declared.faults.CommandFault.{CommandFault}
use Rattle.edit_script.specs.declared.commands.ScriptCommand as script
use Rattle.source_files.specs.Formats.{IsOfTables, Suits}
use Rattle.show_prog.specs.Rows.{ListsMix, listing_text}
use Rattle.dev_io.specs.declared.output_faults.OutputFault.{OutputFault}
use Rattle.dev_io.specs.declared.output_faults.OutputFault.TheVariants.{Sink, Memory as NoMemory}
use Rattle.source_files.specs.Reasons.{reason_text}
use Rattle.source_files.specs.Reading.{Source, IsRefused}
use Rattle.source_files.specs.Contents.{Content}
use Rattle.source_files.specs.Contents as content
use Rattle.source_files.specs.declared.read_faults.Refusal.{Refusal}
use Rattle.source_files.specs.declared.read_faults.Refusal.TheVariants.{Broken, Memory}
use Rattle.source_files.specs.declared.read_faults.ReadFault.{ReadFault}
use Rattle.source_files.specs.declared.read_faults.ReadFault.TheVariants.{Absent, Failed, Refused}
use Rattle.source_files.specs.declared.read_faults.SourceFault.{SourceFault}
use Rattle.command_words.specs.declared.requests.Command.{Command}
use Rattle.command_words.specs.declared.requests.Command.TheVariants.{Edit, ListEdit}
use Rattle.dev_io.specs.Known.{KnownOut}
use Rattle.media_rows.specs.Rows.{MediaRows}
use Rattle.media_text.specs.Texts.{media_text}
use Rattle.edl_frames.specs.Carried.{not_carried, IsListOf}
use Rattle.edl_law.specs.Premises.{AreListed}
use Rattle.otio_tools.specs.Asked.{EditsTimeline, ListsFrames, kind_of}
use Rattle.otio_tools.specs.Forms.{Answer, done, refused, absent, message_of, read_failed}
use Rattle.otio_tools.specs.Events.{CanBeWritten}
use Rattle.otio_tools.specs.Answer.{AnswersHeld}
use Rattle.otio_tools.specs.Conformed.{media_in}
use Rattle.otio_tools.specs.Opened.{IsConformedTo}
use Rattle.script_law.specs.Shown.{opened}
use Rattle.otio_tools.specs.Edited.{IsWorkOn, command_fault_text}
use Rattle.otio_tools.specs.Written.{listings_text, object_json, old_object_json, timeline_text}
use Rattle.otio_tools.specs.declared.Desk.{Desk}
use Rattle.otio_tools.specs.Run.{Streams, Sends, Directs, DirectsFront, DirectsPrefix, Message, OutFailed, SendsNothing, no_memory, output_failed}
use Rattle.otio_tools.specs.declared.Status.{Status}
use Rattle.otio_tools.specs.declared.Status.TheVariants as status
use Rattle.otio_tools.specs.declared.planning.Planned.{Planned}
use Rattle.otio_tools.specs.declared.planning.Planned.TheVariants.{Events, Noted, Value, Root, OldRoot, Rows, Edited, Listed, Text, Media}

-- the text of what is to be sent
abbrev pub text_planned : Planned → List ℕ
text_planned (Events list drop wide) = spelling list drop wide
text_planned (Noted list notes drop wide) = noted_spelling list notes drop wide
text_planned (Value value) = layout value
text_planned (Root object) = layout (object_json object)
text_planned (OldRoot object) = layout (old_object_json object)
text_planned (Rows timeline listing) = listing_text timeline listing
text_planned (Edited desk) = timeline_text desk.timeline
text_planned (Listed timeline asked) = listings_text timeline asked
text_planned (Text text) = text.items
text_planned (Media list) = media_text list

-- What is planned of contents is the answer, or why there is nothing to send, told of the file of
-- that name; out of memory is free.
abbrev pub Suffices : (Option (List ℕ) → Answer → Type 0) → List ℕ → Result Planned Refusal → Type 0
Suffices Is name (Ok planned) = (target : Option (List ℕ))
    → Is target (done target (text_planned planned))
Suffices Is name (Err refusal) =
    (target : Option (List ℕ)) → IsRefused (λ why. Is target (refused name why)) refusal

-- what is planned is the answer, or why there is nothing to send, told of the file of that name
abbrev pub IsRefusedAs : (Option (List ℕ) → Answer → Type 0) → List ℕ → ReadFault → Type 0
IsRefusedAs Is name Absent = ⊥
IsRefusedAs Is name Failed = ⊥
IsRefusedAs Is name (Refused refusal) =
    (target : Option (List ℕ)) → IsRefused (λ why. Is target (refused name why)) refusal

abbrev pub PlansAs : (Option (List ℕ) → Answer → Type 0) → Result Planned SourceFault → Type 0
PlansAs Is (Ok planned) =
    (target : Option (List ℕ)) → Is target (done target (text_planned planned))
PlansAs Is (Err stop) = IsRefusedAs Is stop.name.now stop.fault

-- what is planned of what files hold
abbrev pub PlansHeld : Command → List Source → List Content → Result Planned SourceFault → Type 0
PlansHeld command files contents result =
    PlansAs (λ target answer. AnswersHeld command files target contents answer) result

-- the list of a timeline's events, which a list carries
pub record IsCarriedBy (timeline : Timeline) (media : MediaRows) (drop wide : Bool)
    (list : EventList) : Type 0 where
  pub is : IsListOf timeline media drop wide list
  pub carried : not_carried timeline media drop wide ≡ None
  pub listed : AreListed media

-- what a media list adds to what was read
abbrev pub media_content : MediaRows → List Content
media_content None = []
media_content (Some rows) = content.Rows rows ∷ []

-- what files hold that is edited: the timeline, or one that the list conforms to; the desk is what
-- the commands leave of it
abbrev pub IsWorkHeld : Command → List Content → Desk → Type 0
IsWorkHeld Edit (content.Film timeline ∷ content.Commands commands ∷ more) desk =
    IsFaultless timeline × IsWorkOn timeline commands.items (media_in more) desk
IsWorkHeld (ListEdit rate) (content.Events list ∷ content.Commands commands ∷ more) desk =
    (timeline : Timeline) × IsConformedTo list (media_in more) timeline × IsFaultless timeline
    × IsWorkOn timeline commands.items (media_in more) desk
IsWorkHeld command contents desk = ⊥

-- what is planned of an edit is a desk, and of no other command
abbrev pub LeavesWork : Command → List Content → Planned → Type 0
LeavesWork command contents (Edited desk) = IsWorkHeld command contents desk
LeavesWork command contents (Events list drop wide) = EditsTimeline command → ⊥
LeavesWork command contents (Noted list notes drop wide) = EditsTimeline command → ⊥
LeavesWork command contents (Value value) = EditsTimeline command → ⊥
LeavesWork command contents (Root object) = EditsTimeline command → ⊥
LeavesWork command contents (OldRoot object) = EditsTimeline command → ⊥
LeavesWork command contents (Rows timeline listing) = EditsTimeline command → ⊥
LeavesWork command contents (Listed timeline asked) = EditsTimeline command → ⊥
LeavesWork command contents (Text text) = EditsTimeline command → ⊥
LeavesWork command contents (Media list) = EditsTimeline command → ⊥

-- a desk is planned for edits alone
abbrev pub IsDesk : Planned → Type 0
IsDesk (Edited desk) = Unit {0}
IsDesk (Events list drop wide) = ⊥
IsDesk (Noted list notes drop wide) = ⊥
IsDesk (Value value) = ⊥
IsDesk (Root object) = ⊥
IsDesk (OldRoot object) = ⊥
IsDesk (Rows timeline listing) = ⊥
IsDesk (Listed timeline asked) = ⊥
IsDesk (Text text) = ⊥
IsDesk (Media list) = ⊥

abbrev pub IsDeskFor : Command → Planned → Type 0
IsDeskFor command planned = IsDesk planned → EditsTimeline command

-- what a desk holds once a plan was carried out
abbrev pub desk_planned : Planned → Option Desk → Option Desk
desk_planned (Edited desk) before = Some desk
desk_planned (Events list drop wide) before = before
desk_planned (Noted list notes drop wide) before = before
desk_planned (Value value) before = before
desk_planned (Root object) before = before
desk_planned (OldRoot object) before = before
desk_planned (Rows timeline listing) before = before
desk_planned (Listed timeline asked) before = before
desk_planned (Text text) before = before
desk_planned (Media list) before = before

abbrev pub desk_after : Result Planned SourceFault → Option Desk → Option Desk
desk_after (Ok planned) before = desk_planned planned before
desk_after (Err stop) before = before

-- a command of the script is refused, as it is told
abbrev pub IsHaltOf : Timeline → List script.ScriptCommand → MediaRows → List ℕ → Type 0
IsHaltOf timeline commands media why = (state : State) × (fault : CommandFault)
    × Halts media commands (opened timeline) state fault × (why ≡ command_fault_text fault)

-- a timeline of few items, or a well formed list
abbrev pub IsEditable : Content → Type 0
IsEditable (content.Film timeline) = IsOfTables timeline
IsEditable (content.Events list) = IsWellFormed list
IsEditable (content.Noted list notes) = ⊥
IsEditable (content.Value value) = ⊥
IsEditable (content.Root object) = ⊥
IsEditable (content.Rows rows) = ⊥
IsEditable (content.Commands commands) = ⊥

-- these are the parts of what an edit reads
pub record AreEditParts (command : Command) (first : Content) (commands : Vec script.ScriptCommand)
    (rows : MediaRows) (contents : List Content) : Type 0 where
  pub edits : EditsTimeline command
  pub suits : Suits (kind_of command) first
  pub are : contents ≡ first ∷ content.Commands commands ∷ media_content rows

-- a list that can be written in this mode and layout
pub record IsWritableIn (list : EventList) (drop wide : Bool) : Type 0 where
  pub formed : IsWellFormed list
  pub can : CanBeWritten list drop wide
  pub labelled : IsFirstPast list.rate drop list.events None

-- so can a list with notes
pub record CanBeNoted (list : EventList) (notes : List Note) (drop wide : Bool) : Type 0 where
  pub list_can : IsWritableIn list drop wide
  pub notes_can : All (IsNoteOf list drop) notes

-- a timeline whose rows can be written
pub record CanBeShown (timeline : Timeline) : Type 0 where
  pub sound : IsFaultless timeline
  pub few : count_below timeline.tracks.children < 2 ^ 32

-- what is planned can be written
abbrev pub Fits : Planned → Type 0
Fits (Events list drop wide) = IsWritableIn list drop wide
Fits (Noted list notes drop wide) = CanBeNoted list notes drop wide
Fits (Value value) = Unit {0}
Fits (Root object) = Unit {0}
Fits (OldRoot object) = Unit {0}
Fits (Rows timeline listing) = CanBeShown timeline
Fits (Edited desk) = Unit {0}
Fits (Listed timeline asked) = count_below timeline.tracks.children < 2 ^ 32
Fits (Text text) = Unit {0}
Fits (Media list) = Unit {0}

abbrev pub AreRows : Planned → Type 0
AreRows (Events list drop wide) = ⊥
AreRows (Noted list notes drop wide) = ⊥
AreRows (Value value) = ⊥
AreRows (Root object) = ⊥
AreRows (OldRoot object) = ⊥
AreRows (Rows timeline listing) = Unit {0}
AreRows (Edited desk) = ⊥
AreRows (Listed timeline asked) = ⊥
AreRows (Text text) = ⊥
AreRows (Media list) = ⊥

-- rows are planned, one of which shows a mix
abbrev pub AreMixedRows : Planned → Type 0
AreMixedRows (Events list drop wide) = ⊥
AreMixedRows (Noted list notes drop wide) = ⊥
AreMixedRows (Value value) = ⊥
AreMixedRows (Root object) = ⊥
AreMixedRows (OldRoot object) = ⊥
AreMixedRows (Rows timeline listing) = ListsMix timeline listing
AreMixedRows (Edited desk) = ⊥
AreMixedRows (Listed timeline asked) = ⊥
AreMixedRows (Text text) = ⊥
AreMixedRows (Media list) = ⊥

-- rows are planned for frames alone
abbrev pub IsFor : Command → Planned → Type 0
IsFor command planned = AreRows planned → ListsFrames command

-- the text was sent to the target; or a prefix of it, and the stream failed; or a prefix of rows,
-- one of which shows a mix, and memory ran out
abbrev pub Writes : Option (List ℕ) → Planned → Streams → Status → Type 0
Writes target planned d status.Done = Sends (Directs target (text_planned planned)) d × Message [] d
Writes target planned d status.Output =
    OutFailed d × Sends (DirectsPrefix target (text_planned planned)) d × Message output_failed d
Writes target planned d status.Usage = ⊥
Writes target planned d status.Refused = ⊥
Writes target planned d status.Input = ⊥
Writes target planned d status.Memory =
    AreMixedRows planned × Sends (DirectsFront target (text_planned planned)) d
    × Message no_memory d

-- the same of what was sent alone
abbrev pub WritesTo : {T : Type 0} → Option (List ℕ) → List ℕ → Result T OutputFault → KnownOut
    → KnownOut → Type 0
WritesTo target text (Ok _) old new = Directs target text old new
WritesTo target text (Err Sink) old new = DirectsPrefix target text old new
WritesTo target text (Err NoMemory) old new = DirectsFront target text old new

-- how a run ends that sends nothing
abbrev pub status_of : ReadFault → Status
status_of Absent = status.Input
status_of Failed = status.Input
status_of (Refused (Broken reason)) = status.Refused
status_of (Refused Memory) = status.Memory

-- what is told of the file of that name
abbrev pub message_about : List ℕ → ReadFault → List ℕ
message_about name Absent = (absent name).message
message_about name Failed = read_failed name
message_about name (Refused (Broken reason)) = message_of name (reason_text reason)
message_about name (Refused Memory) = no_memory

-- nothing was sent, and the fault was told
pub record Complains (name : List ℕ) (fault : ReadFault) (d : Streams)
    (result : Status) : Type 0 where
  pub status : result ≡ status_of fault
  pub output : Sends SendsNothing d
  pub message : Message (message_about name fault) d

-- how what is planned is carried out
abbrev pub Carries : Option (List ℕ) → Result Planned SourceFault → Streams → Status → Type 0
Carries target (Ok planned) d result = Writes target planned d result
Carries target (Err stop) d result = Complains stop.name.now stop.fault d result

-- how a run ends whose output isn't whole, and what is told
abbrev pub status_unsent : OutputFault → Status
status_unsent Sink = status.Output
status_unsent NoMemory = status.Memory

abbrev pub message_unsent : OutputFault → List ℕ
message_unsent Sink = output_failed
message_unsent NoMemory = no_memory

-- From what was read of one file, a script and a media list to what is planned.
use Rattle.std.proofs.Common.{◌≡◌, ◌++◌, ℕ, suc, Bool, true, false, List, [], ◌∷◌, All, Some, Result, Ok, Err, IfOk, IfErr, inl, inr, length, map, refl, sym, subst, ap, append-nil}
use Rattle.std.proofs.lemmas.List.Elements.{All-nil, All-cons}
use Rattle.std.specs.declared.option.Option.{Option}
use Rattle.std.specs.Global.{Vec}
use Rattle.dev_io.specs.Handed.{Handed}
use Rattle.otio_model.specs.declared.timelines.Timeline.{Timeline}
use Rattle.media_rows.specs.Rows.{MediaRows}
use Rattle.edit_script.specs.declared.commands.ScriptCommand as script
use Rattle.source_files.specs.Contents.{Content}
use Rattle.source_files.specs.Contents as content
use Rattle.source_files.specs.Formats.{Suits}
use Rattle.source_files.specs.HandedFiles.{HandsOver, GivesAll, GivesFile, GivesStop}
use Rattle.source_files.specs.Inputs.{input_content, input_kind, input_source}
use Rattle.source_files.specs.Kinds.{Kind}
use Rattle.source_files.specs.Kinds as kinds
use Rattle.source_files.specs.Order.{EachIs, IsAmong}
use Rattle.source_files.specs.Reading.{IsRefused, Source, names_of, read_as}
use Rattle.source_files.specs.declared.inputs.Input.{Input}
use Rattle.source_files.specs.declared.inputs.Input.TheVariants as held
use Rattle.source_files.specs.declared.inputs.InputFile.{InputFile}
use Rattle.source_files.specs.declared.inputs.InputKind.{InputKind}
use Rattle.source_files.specs.declared.inputs.InputKind.TheVariants as read
use Rattle.source_files.specs.declared.read_faults.Refusal.{Refusal}
use Rattle.source_files.specs.declared.read_faults.Refusal.TheVariants.{Broken, Memory}
use Rattle.source_files.specs.declared.read_faults.ReadFault.{ReadFault}
use Rattle.source_files.specs.declared.read_faults.SourceFault.{SourceFault}
use Rattle.source_files.proofs.HandedLemmas.{hands_as}
use Rattle.command_words.specs.declared.requests.Command.{Command}
use Rattle.command_words.specs.declared.requests.Command.TheVariants as asked
use Rattle.tick_time.specs.declared.rates.Rate.{Rate}
use Rattle.edl_list.specs.declared.list.EventList.{EventList}
use Rattle.note_text.specs.declared.notes.Note.{Note}
use Rattle.otio_model.specs.declared.objects.Object.{Timeline as ObjectOfTimeline}
use Rattle.otio_tools.specs.Carried.{AnswersCarried}
use Rattle.otio_tools.specs.Objects.{AnswersObject}
use Rattle.otio_tools.specs.Written.{AnswersNoted}
use Rattle.command_words.specs.declared.requests.FramesAsked.{FramesAsked}
use Rattle.otio_tools.specs.Asked.{EditsTimeline, asked_edit, edit_files, media_source}
use Rattle.otio_tools.specs.Answer.{AnswersHeld}
use Rattle.otio_tools.specs.Conformed.{AnswersConformed, NotConformed}
use Rattle.otio_tools.specs.Forms.{Answer, refused}
use Rattle.otio_tools.specs.Frames.{AnswersTimeline}
use Rattle.otio_tools.specs.Opened.{AnswersInput, IsOpened, IsUnmade}
use Rattle.otio_tools.specs.Plan.{AreEditParts, AreRows, IsDesk, IsEditable, IsFor, LeavesWork, PlansHeld, Suffices, media_content}
use Rattle.otio_tools.specs.Pulled.{AnswersPull}
use Rattle.otio_tools.specs.Reported.{IsToldOf}
use Rattle.otio_tools.specs.Served.{PlansGiven}
use Rattle.otio_tools.specs.Tools.{AnswersCounted}
use Rattle.otio_tools.specs.Works.{IsEditOf, IsFramesWork, IsWorkOf}
use Rattle.otio_tools.specs.declared.planning.Planned.{Planned}
use Rattle.otio_tools.specs.declared.work_files.Work.{Work}
use Rattle.otio_tools.specs.declared.work_files.Work.TheVariants as work
use Rattle.otio_tools.proofs.PlanLemmas.{media_is, of_conformed}
use Rattle.otio_tools.proofs.Serving.{given_planned, given_stopped}
use Rattle.otio_tools.proofs.SeveralFiles.{leaves_none}

-- ---- files that are read after others

-- what was read as this was read as what this is
pub given_by : (name : List ℕ) (kind other : Kind) (result : Result Content ReadFault)
    (old new : List Handed) → kind ≡ other
    → HandsOver (GivesFile (read_as name other) result) old new
    → HandsOver (GivesFile (read_as name kind) result) old new
given_by name kind other result old new e h =
    subst (λ (k : Kind). HandsOver (GivesFile (read_as name k) result) old new) (sym e) h

pub nothing_given : (front : List Source) (contents : List Content) (old new : List Handed)
    → HandsOver (GivesAll front contents) old new
    → HandsOver (GivesAll (front ++ []) (contents ++ [])) old new
nothing_given front contents old new h =
    subst (λ (s : List Source). HandsOver (GivesAll s (contents ++ [])) old new)
    (sym (append-nil front))
    (subst (λ (c : List Content). HandsOver (GivesAll front c) old new)
    (sym (append-nil contents)) h)

-- ---- inputs

-- what a file holds whose timeline is worked on is a timeline or a well formed list
pub input_suits : (kind : InputKind) (input : Input)
    → Suits (input_kind kind) (input_content input) → IsEditable (input_content input)
input_suits read.Timeline (held.Timeline timeline) s = s
input_suits read.Timeline (held.List list) s = absurd s
input_suits (read.List rate) (held.Timeline timeline) s = absurd s
input_suits (read.List rate) (held.List list) s = s

pub inputs_suit : (files : List InputFile) (inputs : List Input)
    → EachIs (λ source content. Suits source.kind content) (map input_source files)
    (map input_content inputs) → All IsEditable (map input_content inputs)
inputs_suit [] [] s = All-nil IsEditable
inputs_suit [] (i ∷ inputs) s = absurd s
inputs_suit (f ∷ files) [] s = absurd s
inputs_suit (f ∷ files) (i ∷ inputs) s =
    All-cons IsEditable (input_content i) (map input_content inputs) (input_suits f.kind i s.0)
    (inputs_suit files inputs s.1)

-- as many as files
pub inputs_many : (files : List InputFile) (inputs : List Input)
    → EachIs (λ source content. Suits source.kind content) (map input_source files)
    (map input_content inputs) → length inputs ≡ length (map input_source files)
inputs_many [] [] s = refl
inputs_many [] (i ∷ inputs) s = absurd s
inputs_many (f ∷ files) [] s = absurd s
inputs_many (f ∷ files) (i ∷ inputs) s = ap suc (inputs_many files inputs s.1)

pub length_mapped : {A B : Type 0} (f : A → B) (xs : List A) → length (map f xs) ≡ length xs
length_mapped f [] = refl
length_mapped f (x ∷ xs) = ap suc (length_mapped f xs)

-- what is planned of the timeline of an input is planned of it
pub of_input : (name : List ℕ) (input : Input) (media : MediaRows)
    (Is : Option (List ℕ) → Timeline → Answer → Type 0) (timeline : Timeline)
    (result : Result Planned Refusal) → IsOpened (input_content input) media timeline
    → Suffices (λ target answer. Is target timeline answer) name result
    → Suffices (λ target answer. AnswersInput name (input_content input) media (Is target) answer)
    name result
of_input name (held.Timeline film) media Is timeline result o h =
    subst (λ (t : Timeline). Suffices (λ target answer. Is target t answer) name result) o h
of_input name (held.List list) media Is timeline result o h =
    of_conformed name list media Is timeline result o h

-- and why there is none is why nothing is sent
pub unmade_input : (name : List ℕ) (input : Input) (media : MediaRows)
    (Is : Option (List ℕ) → Timeline → Answer → Type 0) (refusal : Refusal)
    → IsRefused (IsUnmade (input_content input) media) refusal
    → Suffices (λ target answer. AnswersInput name (input_content input) media (Is target) answer)
    name (Err refusal)
unmade_input name (held.Timeline film) media Is (Broken reason) h = absurd h
unmade_input name (held.Timeline film) media Is Memory h = λ target. tt
unmade_input name (held.List list) media Is (Broken reason) h =
    λ target. NotConformed h.0 h.1 h.2 (ap (refused name) h.3)
unmade_input name (held.List list) media Is Memory h = λ target. tt

-- ---- what is planned of work

-- what is planned of the frames of an input is planned for the command
pub frames_held : (command : Command) (input : Input) (frames : FramesAsked) (media : MediaRows)
    (file : Source) (more : List Source) (result : Result Planned Refusal)
    → IsWorkOf command (work.Frames input frames)
    → Suffices (λ target answer. AnswersInput file.name (input_content input) media
    (AnswersTimeline frames file.name target) answer) file.name result
    → Suffices (λ target answer. AnswersHeld command (file ∷ more) target
    (input_content input ∷ media_content media) answer) file.name result
frames_held command (held.Timeline timeline) frames media file more result is h =
    subst (λ (k : Command). Suffices (λ target answer. AnswersHeld k (file ∷ more) target
    (content.Film timeline ∷ media_content media) answer) file.name result) (sym is) h
frames_held command (held.List list) frames media file more result is h =
    subst (λ (k : Command). Suffices (λ target answer. AnswersHeld k (file ∷ more) target
    (content.Events list ∷ media_content media) answer) file.name result) (sym is.1)
    (subst (λ (m : MediaRows). Suffices (λ target answer. AnswersConformed file.name list m
    (AnswersTimeline frames file.name target) answer) file.name result) (sym (media_is media)) h)

pub counts_held : (command : Command) (input : Input) (media : MediaRows) (file : Source)
    (more : List Source) (result : Result Planned Refusal) → IsWorkOf command (work.Stat input)
    → Suffices (λ target answer. AnswersInput file.name (input_content input) media
    (AnswersCounted file.name target) answer) file.name result
    → Suffices (λ target answer. AnswersHeld command (file ∷ more) target
    (input_content input ∷ media_content media) answer) file.name result
counts_held command (held.Timeline timeline) media file more result is h =
    subst (λ (k : Command). Suffices (λ target answer. AnswersHeld k (file ∷ more) target
    (content.Film timeline ∷ media_content media) answer) file.name result) (sym is) h
counts_held command (held.List list) media file more result is h =
    subst (λ (k : Command). Suffices (λ target answer. AnswersHeld k (file ∷ more) target
    (content.Events list ∷ media_content media) answer) file.name result) (sym is.1)
    (subst (λ (m : MediaRows). Suffices (λ target answer. AnswersConformed file.name list m
    (AnswersCounted file.name target) answer) file.name result) (sym (media_is media)) h)

pub pull_held : (command : Command) (input : Input) (handles : ℕ) (media : MediaRows)
    (file : Source) (more : List Source) (result : Result Planned Refusal)
    → IsWorkOf command (work.Pull input handles)
    → Suffices (λ target answer. AnswersInput file.name (input_content input) media
    (AnswersPull handles file.name target) answer) file.name result
    → Suffices (λ target answer. AnswersHeld command (file ∷ more) target
    (input_content input ∷ media_content media) answer) file.name result
pull_held command (held.Timeline timeline) handles media file more result is h =
    subst (λ (k : Command). Suffices (λ target answer. AnswersHeld k (file ∷ more) target
    (content.Film timeline ∷ media_content media) answer) file.name result) (sym is) h
pull_held command (held.List list) handles media file more result is h =
    subst (λ (k : Command). Suffices (λ target answer. AnswersHeld k (file ∷ more) target
    (content.Events list ∷ media_content media) answer) file.name result) (sym is.1)
    (subst (λ (m : MediaRows). Suffices (λ target answer. AnswersConformed file.name list m
    (AnswersPull handles file.name target) answer) file.name result) (sym (media_is media)) h)

-- what is planned of a list that is conformed and written
pub conform_held : (rate : Rate) (older : Bool) (list : EventList) (media : MediaRows)
    (file : Source) (files : List Source) (result : Result Planned Refusal)
    → Suffices (λ target answer. AnswersConformed file.name list media
    (λ t. AnswersObject older file.name target (ObjectOfTimeline t)) answer) file.name result
    → Suffices (λ target answer. AnswersHeld (asked.ListToObjects rate older false) (file ∷ files)
    target (content.Events list ∷ media_content media) answer) file.name result
conform_held rate older list media file files result h =
    subst (λ (m : MediaRows). Suffices (λ target answer. AnswersConformed file.name list m
    (λ t. AnswersObject older file.name target (ObjectOfTimeline t)) answer) file.name result)
    (sym (media_is media)) h

pub noted_conform_held : (rate : Rate) (older : Bool) (list : EventList) (notes : List Note)
    (media : MediaRows) (file : Source) (files : List Source) (result : Result Planned Refusal)
    → Suffices (λ target answer. AnswersConformed file.name list media (AnswersNoted list notes
    (λ t. AnswersObject older file.name target (ObjectOfTimeline t))) answer) file.name result
    → Suffices (λ target answer. AnswersHeld (asked.ListToObjects rate older true) (file ∷ files)
    target (content.Noted list notes ∷ media_content media) answer) file.name result
noted_conform_held rate older list notes media file files result h =
    subst (λ (m : MediaRows). Suffices (λ target answer. AnswersConformed file.name list m
    (AnswersNoted list notes (λ t. AnswersObject older file.name target (ObjectOfTimeline t)))
    answer) file.name result) (sym (media_is media)) h

-- what is planned of the events of a timeline
pub events_held : (drop wide notes : Bool) (timeline : Timeline) (media : MediaRows)
    (file : Source) (files : List Source) (result : Result Planned Refusal)
    → Suffices (λ target answer. AnswersCarried notes drop wide file.name media target timeline
    answer) file.name result
    → Suffices (λ target answer. AnswersHeld (asked.TimelineToList drop wide notes) (file ∷ files)
    target (content.Film timeline ∷ media_content media) answer) file.name result
events_held drop wide notes timeline media file files result h =
    subst (λ (m : MediaRows). Suffices (λ target answer.
    AnswersCarried notes drop wide file.name m target timeline answer) file.name result)
    (sym (media_is media)) h

-- what is planned for a command is planned for the one that asks for it
pub held_for : (command other : Command) (file : Source) (files : List Source)
    (contents : List Content) (result : Result Planned Refusal) → command ≡ other
    → Suffices (λ target answer. AnswersHeld other (file ∷ files) target contents answer) file.name
    result
    → Suffices (λ target answer. AnswersHeld command (file ∷ files) target contents answer)
    file.name result
held_for command other file files contents result e h =
    subst (λ (k : Command). Suffices (λ target answer.
    AnswersHeld k (file ∷ files) target contents answer) file.name result) (sym e) h

-- rows are planned of frames alone
pub rows_for : (command : Command) (made : Work) (result : Result Planned SourceFault)
    → IsWorkOf command made → IfOk result (λ planned. AreRows planned → IsFramesWork made)
    → IfOk result (λ planned. IsFor command planned)
rows_for command made (Err stop) is k = tt
rows_for command (work.Frames (held.Timeline timeline) frames) (Ok planned) is k = λ rows. rw is tt
rows_for command (work.Frames (held.List list) frames) (Ok planned) is k = λ rows. rw is.1 tt
rows_for command (work.Json value) (Ok planned) is k = λ rows. absurd (k rows)
rows_for command (work.Root object older) (Ok planned) is k = λ rows. absurd (k rows)
rows_for command (work.Log list) (Ok planned) is k = λ rows. absurd (k rows)
rows_for command (work.List list drop wide) (Ok planned) is k = λ rows. absurd (k rows)
rows_for command (work.Conform list older) (Ok planned) is k = λ rows. absurd (k rows)
rows_for command (work.Events timeline ways) (Ok planned) is k = λ rows. absurd (k rows)
rows_for command (work.Stat input) (Ok planned) is k = λ rows. absurd (k rows)
rows_for command (work.Pull input handles) (Ok planned) is k = λ rows. absurd (k rows)

-- a fault of the first file is told of it
pub told_first : (kind : Kind) (name : List ℕ) (more : List Source)
    (result : Result Planned SourceFault) → IfErr result (λ stop. stop.name.now ≡ name)
    → IfErr result (λ stop. IsAmong (names_of (read_as name kind ∷ more)) stop.name.now)
told_first kind name more (Ok planned) t = tt
told_first kind name more (Err stop) t = inl t

-- no desk is planned
pub leaves_none_of : (command : Command) (contents : List Content)
    (result : Result Planned SourceFault) → (EditsTimeline command → ⊥)
    → IfOk result (λ planned. IsDesk planned → ⊥) → IfOk result (LeavesWork command contents)
leaves_none_of command contents (Ok planned) other none =
    leaves_none command contents planned other none
leaves_none_of command contents (Err stop) other none = tt

-- ---- edits

edit_sources : (command : Command) (file : InputFile) (called : List ℕ)
    (media : Option (List ℕ)) → IsEditOf command file
    → input_source file ∷ read_as called kinds.Script ∷ media_source media
    ≡ edit_files command file.name.now called media
edit_sources command file called media e =
    ap (λ (k : Kind). read_as file.name.now k ∷ read_as called kinds.Script ∷ media_source media)
    e.kind

-- the parts of what an edit reads
pub edit_parts : (command : Command) (file : InputFile) (input : Input)
    (commands : Vec script.ScriptCommand) (rows : MediaRows) → IsEditOf command file
    → Suits (input_source file).kind (input_content input)
    → AreEditParts command (input_content input) commands rows
    (input_content input ∷ content.Commands commands ∷ media_content rows)
edit_parts command file input commands rows e s = record {
  edits = e.edits;
  suits = subst (λ (k : Kind). Suits k (input_content input)) e.kind s;
  are = refl;
}

pub edit_given : (command : Command) (file : InputFile) (called : List ℕ)
    (media target : Option (List ℕ)) (contents : List Content)
    (result : Result Planned SourceFault) (old new : List Handed) → IsEditOf command file
    → HandsOver (GivesAll (input_source file ∷ read_as called kinds.Script ∷ media_source media)
    contents) old new
    → PlansHeld command (edit_files command file.name.now called media) contents result
    → IfOk result (LeavesWork command contents)
    → HandsOver (PlansGiven (asked_edit command file.name.now called media target) result) old new
edit_given command file called media target contents result old new e h p w =
    given_planned (asked_edit command file.name.now called media target) contents result old new
    (subst (λ (s : List Source). HandsOver (GivesAll s contents) old new)
    (edit_sources command file called media e) h) p w

pub edit_unread : (command : Command) (file : InputFile) (called : List ℕ)
    (media target : Option (List ℕ)) (stop : SourceFault) (old new : List Handed)
    → IsEditOf command file
    → HandsOver (GivesStop (input_source file ∷ read_as called kinds.Script ∷ media_source media)
    stop.name.now stop.fault) old new
    → HandsOver (PlansGiven (asked_edit command file.name.now called media target) (Err stop)) old
    new
edit_unread command file called media target stop old new e h =
    given_stopped (asked_edit command file.name.now called media target) stop old new
    (subst (λ (s : List Source). HandsOver (GivesStop s stop.name.now stop.fault) old new)
    (edit_sources command file called media e) h)

-- its fault is told of the file or of the script
pub told_of_edit : (command : Command) (name called : List ℕ) (media : Option (List ℕ))
    (result : Result Planned SourceFault)
    → IfErr result (λ stop. IsToldOf name (Some called) stop.name.now)
    → IfErr result (λ stop. IsAmong (names_of (edit_files command name called media)) stop.name.now)
told_of_edit command name called media (Ok planned) t = tt
told_of_edit command name called media (Err stop) (inl e) = inl e
told_of_edit command name called media (Err stop) (inr e) = inr (inl e)

-- ---- the first files of several

unread_by : (front more : List Source) (name : List ℕ) (fault : ReadFault) (calls : List Handed)
    → GivesStop front name fault calls → GivesStop (front ++ more) name fault calls
unread_by [] more name fault calls h = absurd h
unread_by (s ∷ front) more name fault calls (inl h) = inl h
unread_by (s ∷ front) more name fault calls (inr h) =
    inr (h.0, h.1, h.2, h.3, h.4, unread_by front more name fault h.2 h.5)

pub unread_before : (front more : List Source) (name : List ℕ) (fault : ReadFault)
    (old new : List Handed) → HandsOver (GivesStop front name fault) old new
    → HandsOver (GivesStop (front ++ more) name fault) old new
unread_before front more name fault old new h =
    hands_as (GivesStop front name fault) (GivesStop (front ++ more) name fault) old new
    (λ calls. unread_by front more name fault calls) h

pub among_before : (front more : List Source) (name : List ℕ) → IsAmong (names_of front) name
    → IsAmong (names_of (front ++ more)) name
among_before [] more name a = absurd a
among_before (s ∷ front) more name (inl e) = inl e
among_before (s ∷ front) more name (inr a) = inr (among_before front more name a)

pub among_after : (front more : List Source) (name : List ℕ) → IsAmong (names_of more) name
    → IsAmong (names_of (front ++ more)) name
among_after [] more name a = a
among_after (s ∷ front) more name a = inr (among_after front more name a)

-- From what an edit reads to what is planned.
use Rattle.std.proofs.Common.{◌≡◌, ℕ, List, ◌∷◌, Result, Ok, Err, IfErr, refl, sym, subst, ap, inl, inr}
use Rattle.std.specs.declared.option.Option.{Option}
use Rattle.std.specs.Global.{Vec}
use Rattle.json_text.specs.Layout.{layout}
use Rattle.otio_model.specs.declared.timelines.Timeline.{Timeline}
use Rattle.otio_model.specs.Timelines.{bare}
use Rattle.coord.specs.Soundness.{IsFaultless}
use Rattle.undo_log.specs.States.{state_of}
use Rattle.edit_script.specs.declared.commands.ScriptCommand as script
use Rattle.edl_list.specs.declared.list.EventList.{EventList}
use Rattle.media_rows.specs.Rows.{MediaRows}
use Rattle.source_files.specs.Formats.{Suits}
use Rattle.source_files.specs.Reading.{Source, IsRefused, read_as}
use Rattle.source_files.specs.Kinds as kinds
use Rattle.source_files.specs.Contents.{Content}
use Rattle.source_files.specs.Contents as content
use Rattle.source_files.specs.declared.read_faults.Refusal.{Refusal}
use Rattle.source_files.proofs.HandedLemmas.{refused_by}
use Rattle.command_words.specs.declared.requests.Command.{Command}
use Rattle.command_words.specs.declared.requests.Command.TheVariants.{ListToList, ListToObjects, TimelineToList, ToObjects, ToJson, Frames, ListFrames, Edit, ListEdit}
use Rattle.command_words.specs.declared.requests.Command.TheVariants.{Cat, ListCat, Stat, ListStat, Tool, ListTool, Pull, ListPull, LogToMedia}
use Rattle.otio_tools.specs.Asked.{EditsTimeline, edit_files, kind_of, media_source}
use Rattle.otio_tools.specs.Answer.{AnswersHeld}
use Rattle.otio_tools.specs.Conformed.{media_in, Conformed, NotConformed}
use Rattle.otio_tools.specs.Edited.{IsWorkOn, Faulted, Halted, Edited}
use Rattle.otio_tools.specs.Forms.{done, refused}
use Rattle.otio_tools.specs.Opened.{IsConformedTo, IsOpened, IsUnopened, IsUnsound}
use Rattle.otio_tools.specs.Plan.{AreEditParts, IsHaltOf, IsWorkHeld, media_content}
use Rattle.otio_tools.specs.Written.{timeline_text}
use Rattle.otio_tools.specs.declared.Desk.{Desk}
use Rattle.otio_tools.proofs.Formats.{bare_json}
use Rattle.otio_tools.proofs.OneText.{same_json}
use Rattle.otio_tools.proofs.PlanLemmas.{media_is}

-- the text of a timeline doesn't depend on its spare memory
text_bare : (t : Timeline) → timeline_text t ≡ timeline_text (bare t)
text_bare t = ap layout (same_json _ _ (bare_json t (bare t) refl))

-- ---- the answers, whatever stands after the script

done_with : (command : Command) (file called : Source) (files : List Source) (held : Content)
    (commands : Vec script.ScriptCommand) (more : List Content) (timeline : Timeline) (desk : Desk)
    (target : Option (List ℕ)) → EditsTimeline command → Suits (kind_of command) held
    → IsOpened held (media_in more) timeline → IsFaultless timeline
    → IsWorkOn timeline commands.items (media_in more) desk
    → AnswersHeld command (file ∷ called ∷ files) target (held ∷ content.Commands commands ∷ more)
    (done target (timeline_text desk.timeline))
done_with Edit file called files (content.Film film) commands more t desk target e s o f w =
    Edited (subst IsFaultless o f) (state_of desk.log desk.timeline)
    (subst (λ x. IsWorkOn x commands.items (media_in more) desk) o w).runs
    (ap (done target) (text_bare desk.timeline))
done_with Edit file called files (content.Commands cs) commands more t desk target e s o f w =
    absurd s
done_with Edit file called files (content.Rows rows) commands more t desk target e s o f w =
    absurd s
done_with Edit file called files (content.Noted noted said) commands more t desk target e s o f w =
    absurd s
done_with Edit file called files (content.Events list) commands more t desk target e s o f w =
    absurd s
done_with Edit file called files (content.Value value) commands more t desk target e s o f w =
    absurd s
done_with Edit file called files (content.Root object) commands more t desk target e s o f w =
    absurd s
done_with (ListEdit rate) file called files (content.Events list) commands more t desk target e s o
    f w =
    Conformed t o.is o.accepted o.few (Edited f (state_of desk.log desk.timeline) w.runs
    (ap (done target) (text_bare desk.timeline)))
done_with (ListEdit rate) file called files (content.Commands cs) commands more t desk target e s o
    f w = absurd s
done_with (ListEdit rate) file called files (content.Noted noted said) commands more t desk
    target e s o f
    w = absurd s
done_with (ListEdit rate) file called files (content.Rows rows) commands more t desk target e s o f
    w = absurd s
done_with (ListEdit rate) file called files (content.Film film) commands more t desk target e s o f
    w = absurd s
done_with (ListEdit rate) file called files (content.Value value) commands more t desk target e s o
    f w = absurd s
done_with (ListEdit rate) file called files (content.Root object) commands more t desk target e s o
    f w = absurd s
done_with (ListToList rate drop wide notes) file called files held commands more t desk target e
    s o f w =
    absurd e
done_with (ListToObjects rate older notes) file called files held commands more t desk target e s
    o f w =
    absurd e
done_with (TimelineToList drop wide notes) file called files held commands more t desk target e s
    o f w =
    absurd e
done_with (ToObjects older) file called files held commands more t desk target e s o f w = absurd e
done_with ToJson file called files held commands more t desk target e s o f w = absurd e
done_with LogToMedia file called files held commands more t desk target e s o f w = absurd e
done_with (Frames asked) file called files held commands more t desk target e s o f w = absurd e
done_with (ListFrames rate asked) file called files held commands more t desk target e s o f w =
    absurd e
done_with Stat file called files held commands more t desk target e s o f w =
    absurd e
done_with (ListStat rate) file called files held commands more t desk target e s o f w =
    absurd e
done_with (Pull handles) file called files held commands more t desk target e s o f w =
    absurd e
done_with (ListPull rate handles) file called files held commands more t desk target e s o f w =
    absurd e
done_with Cat file called files held commands more t desk target e s o f w =
    absurd e
done_with (ListCat rate) file called files held commands more t desk target e s o f w =
    absurd e
done_with (Tool asked) file called files held commands more t desk target e s o f w =
    absurd e
done_with (ListTool rate asked) file called files held commands more t desk target e s o f w =
    absurd e

halted_with : (command : Command) (file called : Source) (files : List Source) (held : Content)
    (commands : Vec script.ScriptCommand) (more : List Content) (timeline : Timeline) (why : List ℕ)
    (target : Option (List ℕ)) → EditsTimeline command → Suits (kind_of command) held
    → IsOpened held (media_in more) timeline → IsFaultless timeline
    → IsHaltOf timeline commands.items (media_in more) why
    → AnswersHeld command (file ∷ called ∷ files) target (held ∷ content.Commands commands ∷ more)
    (refused called.name why)
halted_with Edit file called files (content.Film film) commands more t why target e s o f w =
    let h = subst (λ x. IsHaltOf x commands.items (media_in more) why) o w in
    Halted (subst IsFaultless o f) h.0 h.1 h.2 (ap (refused called.name) h.3)
halted_with Edit file called files (content.Commands cs) commands more t why target e s o f w =
    absurd s
halted_with Edit file called files (content.Rows rows) commands more t why target e s o f w =
    absurd s
halted_with Edit file called files (content.Noted noted said) commands more t why target e s o f w =
    absurd s
halted_with Edit file called files (content.Events list) commands more t why target e s o f w =
    absurd s
halted_with Edit file called files (content.Value value) commands more t why target e s o f w =
    absurd s
halted_with Edit file called files (content.Root object) commands more t why target e s o f w =
    absurd s
halted_with (ListEdit rate) file called files (content.Events list) commands more t why target e s o
    f w =
    Conformed t o.is o.accepted o.few (Halted f w.0 w.1 w.2 (ap (refused called.name) w.3))
halted_with (ListEdit rate) file called files (content.Commands cs) commands more t why target e s o
    f w = absurd s
halted_with (ListEdit rate) file called files (content.Noted noted said) commands more t why
    target e s o f
    w = absurd s
halted_with (ListEdit rate) file called files (content.Rows rows) commands more t why target e s o f
    w = absurd s
halted_with (ListEdit rate) file called files (content.Film film) commands more t why target e s o f
    w = absurd s
halted_with (ListEdit rate) file called files (content.Value value) commands more t why target e s o
    f w = absurd s
halted_with (ListEdit rate) file called files (content.Root object) commands more t why target e s o
    f w = absurd s
halted_with (ListToList rate drop wide notes) file called files held commands more t why target e
    s o f
    w = absurd e
halted_with (ListToObjects rate older notes) file called files held commands more t why target e
    s o f w =
    absurd e
halted_with (TimelineToList drop wide notes) file called files held commands more t why target e
    s o f w =
    absurd e
halted_with (ToObjects older) file called files held commands more t why target e s o f w = absurd e
halted_with ToJson file called files held commands more t why target e s o f w = absurd e
halted_with LogToMedia file called files held commands more t why target e s o f w = absurd e
halted_with (Frames asked) file called files held commands more t why target e s o f w = absurd e
halted_with (ListFrames rate asked) file called files held commands more t why target e s o f w =
    absurd e
halted_with Stat file called files held commands more t why target e s o f w =
    absurd e
halted_with (ListStat rate) file called files held commands more t why target e s o f w =
    absurd e
halted_with (Pull handles) file called files held commands more t why target e s o f w =
    absurd e
halted_with (ListPull rate handles) file called files held commands more t why target e s o f w =
    absurd e
halted_with Cat file called files held commands more t why target e s o f w =
    absurd e
halted_with (ListCat rate) file called files held commands more t why target e s o f w =
    absurd e
halted_with (Tool asked) file called files held commands more t why target e s o f w =
    absurd e
halted_with (ListTool rate asked) file called files held commands more t why target e s o f w =
    absurd e

unopened_with : (command : Command) (file called : Source) (files : List Source) (held : Content)
    (commands : Vec script.ScriptCommand) (more : List Content) (why : List ℕ)
    (target : Option (List ℕ)) → EditsTimeline command → Suits (kind_of command) held
    → IsUnopened held (media_in more) why
    → AnswersHeld command (file ∷ called ∷ files) target (held ∷ content.Commands commands ∷ more)
    (refused file.name why)
unopened_with Edit file called files (content.Film film) commands more why target e s u =
    Faulted u.0 u.1 u.2 (ap (refused file.name) u.3)
unopened_with Edit file called files (content.Commands cs) commands more why target e s u = absurd s
unopened_with Edit file called files (content.Noted noted said) commands more why target e s u =
    absurd s
unopened_with Edit file called files (content.Rows rows) commands more why target e s u = absurd s
unopened_with Edit file called files (content.Events list) commands more why target e s u = absurd s
unopened_with Edit file called files (content.Value value) commands more why target e s u = absurd s
unopened_with Edit file called files (content.Root object) commands more why target e s u = absurd s
unopened_with (ListEdit rate) file called files (content.Events list) commands more why target e s
    (inl u) =
    NotConformed u.0 u.1 u.2 (ap (refused file.name) u.3)
unopened_with (ListEdit rate) file called files (content.Events list) commands more why target e s
    (inr u) =
    let c = u.1 in let v = u.2 in
    Conformed u.0 c.is c.accepted c.few (Faulted v.0 v.1 v.2 (ap (refused file.name) v.3))
unopened_with (ListEdit rate) file called files (content.Commands cs) commands more why target e s
    u = absurd s
unopened_with (ListEdit rate) file called files (content.Rows rows) commands more why target e s u =
    absurd s
unopened_with (ListEdit rate) file called files (content.Noted noted said) commands more why
    target e
    s u = absurd s
unopened_with (ListEdit rate) file called files (content.Film film) commands more why target e s u =
    absurd s
unopened_with (ListEdit rate) file called files (content.Value value) commands more why target e s
    u = absurd s
unopened_with (ListEdit rate) file called files (content.Root object) commands more why target e s
    u = absurd s
unopened_with (ListToList rate drop wide notes) file called files held commands more why target e
    s u =
    absurd e
unopened_with (ListToObjects rate older notes) file called files held commands more why target e
    s u = absurd e
unopened_with (TimelineToList drop wide notes) file called files held commands more why target e
    s u =
    absurd e
unopened_with (ToObjects older) file called files held commands more why target e s u = absurd e
unopened_with ToJson file called files held commands more why target e s u = absurd e
unopened_with LogToMedia file called files held commands more why target e s u = absurd e
unopened_with (Frames asked) file called files held commands more why target e s u = absurd e
unopened_with (ListFrames rate asked) file called files held commands more why target e s u =
    absurd e
unopened_with Stat file called files held commands more why target e s u =
    absurd e
unopened_with (ListStat rate) file called files held commands more why target e s u =
    absurd e
unopened_with (Pull handles) file called files held commands more why target e s u =
    absurd e
unopened_with (ListPull rate handles) file called files held commands more why target e s u =
    absurd e
unopened_with Cat file called files held commands more why target e s u =
    absurd e
unopened_with (ListCat rate) file called files held commands more why target e s u =
    absurd e
unopened_with (Tool asked) file called files held commands more why target e s u =
    absurd e
unopened_with (ListTool rate asked) file called files held commands more why target e s u =
    absurd e

work_with : (command : Command) (held : Content) (commands : Vec script.ScriptCommand)
    (more : List Content) (timeline : Timeline) (desk : Desk) → EditsTimeline command
    → Suits (kind_of command) held → IsOpened held (media_in more) timeline → IsFaultless timeline
    → IsWorkOn timeline commands.items (media_in more) desk
    → IsWorkHeld command (held ∷ content.Commands commands ∷ more) desk
work_with Edit (content.Film film) commands more t desk e s o f w =
    (subst IsFaultless o f, subst (λ x. IsWorkOn x commands.items (media_in more) desk) o w)
work_with Edit (content.Commands cs) commands more t desk e s o f w = absurd s
work_with Edit (content.Noted noted said) commands more t desk e s o f w = absurd s
work_with Edit (content.Rows rows) commands more t desk e s o f w = absurd s
work_with Edit (content.Events list) commands more t desk e s o f w = absurd s
work_with Edit (content.Value value) commands more t desk e s o f w = absurd s
work_with Edit (content.Root object) commands more t desk e s o f w = absurd s
work_with (ListEdit rate) (content.Events list) commands more t desk e s o f w = (t, o, f, w)
work_with (ListEdit rate) (content.Commands cs) commands more t desk e s o f w = absurd s
work_with (ListEdit rate) (content.Noted noted said) commands more t desk e s o f w = absurd s
work_with (ListEdit rate) (content.Rows rows) commands more t desk e s o f w = absurd s
work_with (ListEdit rate) (content.Film film) commands more t desk e s o f w = absurd s
work_with (ListEdit rate) (content.Value value) commands more t desk e s o f w = absurd s
work_with (ListEdit rate) (content.Root object) commands more t desk e s o f w = absurd s
work_with (ListToList rate drop wide notes) held commands more t desk e s o f w = absurd e
work_with (ListToObjects rate older notes) held commands more t desk e s o f w = absurd e
work_with (TimelineToList drop wide notes) held commands more t desk e s o f w = absurd e
work_with (ToObjects older) held commands more t desk e s o f w = absurd e
work_with ToJson held commands more t desk e s o f w = absurd e
work_with LogToMedia held commands more t desk e s o f w = absurd e
work_with (Frames asked) held commands more t desk e s o f w = absurd e
work_with (ListFrames rate asked) held commands more t desk e s o f w = absurd e
work_with Stat held commands more t desk e s o f w = absurd e
work_with (ListStat rate) held commands more t desk e s o f w = absurd e
work_with (Pull handles) held commands more t desk e s o f w = absurd e
work_with (ListPull rate handles) held commands more t desk e s o f w = absurd e
work_with Cat held commands more t desk e s o f w = absurd e
work_with (ListCat rate) held commands more t desk e s o f w = absurd e
work_with (Tool asked) held commands more t desk e s o f w = absurd e
work_with (ListTool rate asked) held commands more t desk e s o f w = absurd e

-- ---- the same of what was read, taken apart

pub edit_done : (command : Command) (name called : List ℕ) (media : Option (List ℕ))
    (contents : List Content) (held : Content) (commands : Vec script.ScriptCommand) (rows : MediaRows)
    (timeline : Timeline) (desk : Desk) → AreEditParts command held commands rows contents
    → IsOpened held rows timeline → IsFaultless timeline
    → IsWorkOn timeline commands.items rows desk
    → (target : Option (List ℕ)) → AnswersHeld command (edit_files command name called media)
    target contents (done target (timeline_text desk.timeline))
edit_done command name called media contents held commands rows timeline desk p o f w target =
    subst (λ c. AnswersHeld command (edit_files command name called media) target c
    (done target (timeline_text desk.timeline))) (sym p.are)
    (done_with command (read_as name (kind_of command)) (read_as called kinds.Script)
    (media_source media) held commands (media_content rows) timeline desk target p.edits p.suits
    (subst (λ m. IsOpened held m timeline) (sym (media_is rows)) o) f
    (subst (λ m. IsWorkOn timeline commands.items m desk) (sym (media_is rows)) w))

pub edit_work : (command : Command) (contents : List Content) (held : Content)
    (commands : Vec script.ScriptCommand) (rows : MediaRows) (timeline : Timeline) (desk : Desk)
    → AreEditParts command held commands rows contents
    → IsOpened held rows timeline → IsFaultless timeline
    → IsWorkOn timeline commands.items rows desk
    → IsWorkHeld command contents desk
edit_work command contents held commands rows timeline desk p o f w =
    subst (λ c. IsWorkHeld command c desk) (sym p.are)
    (work_with command held commands (media_content rows) timeline desk p.edits p.suits
    (subst (λ m. IsOpened held m timeline) (sym (media_is rows)) o) f
    (subst (λ m. IsWorkOn timeline commands.items m desk) (sym (media_is rows)) w))

pub edit_halted : (command : Command) (name called : List ℕ) (media : Option (List ℕ))
    (contents : List Content) (held : Content) (commands : Vec script.ScriptCommand) (rows : MediaRows)
    (timeline : Timeline) (refusal : Refusal) → AreEditParts command held commands rows contents
    → IsOpened held rows timeline → IsFaultless timeline
    → IsRefused (IsHaltOf timeline commands.items rows) refusal
    → (target : Option (List ℕ)) → IsRefused (λ why. AnswersHeld command
    (edit_files command name called media) target contents (refused called why)) refusal
edit_halted command name called media contents held commands rows timeline refusal p o f w target =
    refused_by (IsHaltOf timeline commands.items rows) _ refusal
    (λ why h. subst (λ c. AnswersHeld command (edit_files command name called media) target c
    (refused called why)) (sym p.are)
    (halted_with command (read_as name (kind_of command)) (read_as called kinds.Script)
    (media_source media) held commands (media_content rows) timeline why target p.edits p.suits
    (subst (λ m. IsOpened held m timeline) (sym (media_is rows)) o) f
    (subst (λ m. IsHaltOf timeline commands.items m why) (sym (media_is rows)) h))) w

pub edit_unopened : (command : Command) (name called : List ℕ) (media : Option (List ℕ))
    (contents : List Content) (held : Content) (commands : Vec script.ScriptCommand) (rows : MediaRows)
    (refusal : Refusal) → AreEditParts command held commands rows contents
    → IsRefused (IsUnopened held rows) refusal
    → (target : Option (List ℕ)) → IsRefused (λ why. AnswersHeld command
    (edit_files command name called media) target contents (refused name why)) refusal
edit_unopened command name called media contents held commands rows refusal p w target =
    refused_by (IsUnopened held rows) _ refusal
    (λ why h. subst (λ c. AnswersHeld command (edit_files command name called media) target c
    (refused name why)) (sym p.are)
    (unopened_with command (read_as name (kind_of command)) (read_as called kinds.Script)
    (media_source media) held commands (media_content rows) why target p.edits p.suits
    (subst (λ m. IsUnopened held m why) (sym (media_is rows)) h))) w

-- a list's timeline that isn't sound is none that can be edited
pub unsound_list : (list : EventList) (media : MediaRows) (timeline : Timeline)
    (result : Result Timeline Refusal) → IsConformedTo list media timeline
    → IfErr result (IsRefused (IsUnsound timeline))
    → IfErr result (IsRefused (IsUnopened (content.Events list) media))
unsound_list list media timeline (Ok found) c h = tt
unsound_list list media timeline (Err refusal) c h =
    refused_by (IsUnsound timeline) (IsUnopened (content.Events list) media) refusal
    (λ why u. inr (timeline, c, u)) h

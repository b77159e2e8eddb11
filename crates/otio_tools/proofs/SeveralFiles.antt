-- From what several files hold to what is planned.
use Rattle.std.proofs.Common.{◌≡◌, ◌≢◌, ◌++◌, ◌||◌, ℕ, suc, Bool, true, false, cond, List, [], ◌∷◌, All, Option, Some, None, Result, Ok, Err, IfOk, IsTrue, ◌↔◌, zero, ◌<◌, ◌+◌, get_or, length, map, take, drop, refl, sym, ap, ap₂, subst, ◌∙◌, inl, inr, bytes_eq, codes, arith}
use Rattle.std.proofs.lemmas.Slice.Eq.{bytes_eq-Decides}
use Rattle.std.proofs.lemmas.List.{take_more}
use Rattle.std.proofs.lemmas.List.Elements.{All-nil, All-head, All-tail, All-push}
use denote.Ref.{Bor}
use Rattle.otio_model.specs.declared.timelines.Timeline.{Timeline}
use Rattle.media_rows.specs.Rows.{MediaRows}
use Rattle.source_files.specs.Reasons.{reason_text}
use Rattle.dev_io.specs.Handed.{Handed}
use Rattle.source_files.specs.HandedFiles.{HandsOver, GivesAll, GivesStop}
use Rattle.source_files.specs.Order.{EachIs, FirstIsNot}
use Rattle.source_files.specs.Reading.{Source, IsRefused, RaisedBy}
use Rattle.source_files.specs.Inputs.{input_source}
use Rattle.source_files.specs.declared.inputs.InputFile.{InputFile}
use Rattle.source_files.specs.Contents.{Content}
use Rattle.source_files.specs.Contents as content
use Rattle.source_files.specs.declared.read_faults.Refusal.{Refusal}
use Rattle.source_files.specs.declared.read_faults.Refusal.TheVariants.{Broken, Memory}
use Rattle.source_files.specs.declared.read_faults.ReadFault.{ReadFault}
use Rattle.source_files.specs.declared.read_faults.ReadFault.TheVariants.{Absent, Failed, Refused}
use Rattle.source_files.specs.declared.read_faults.SourceFault.{SourceFault}
use Rattle.source_files.proofs.Order.{each_more, first_behind, first_for}
use Rattle.command_words.specs.Asked.{OtherNames}
use Rattle.command_words.specs.Names.{IsListName}
use Rattle.command_words.specs.declared.requests.Command.{Command}
use Rattle.command_words.specs.declared.requests.Command.TheVariants.{ListToList, ListToObjects, TimelineToList, ToObjects, ToJson, Frames, ListFrames, Edit, ListEdit}
use Rattle.command_words.specs.declared.requests.Command.TheVariants.{Cat, ListCat, Stat, ListStat, Tool, ListTool, Pull, ListPull, LogToMedia}
use Rattle.otio_tools.specs.Asked.{EditsTimeline, IsScripted, asked_alone, asked_for, files_of, input_named, is_list, media_source, script_source, takes_several}
use Rattle.otio_tools.specs.Answer.{AnswersHeld}
use Rattle.otio_tools.specs.Forms.{Answer, done, refused}
use Rattle.otio_tools.specs.Opened.{AnswersOpened, AnswersUnopened, Input, IsOpened, IsOpenedInput, IsUnopened, Opened, Unopened, inputs_in, media_behind, names_in}
use Rattle.otio_tools.specs.Plan.{IsDesk, IsEditable, IsRefusedAs, LeavesWork, PlansAs, PlansHeld, media_content, text_planned}
use Rattle.otio_tools.specs.Several.{AnswersTimelines, HasJoining, IsOpening, IsRefusedAt, StopsOpening, named_inputs, names_now}
use Rattle.otio_tools.specs.Tools.{AnswersJoined, AnswersTool, Joined, NotJoined, NotWorked, Worked, name_told, tool_fault_text, tool_text}
use Rattle.flat_stack.specs.Chains.{Told}
use Rattle.flat_stack.specs.Gathered.{IsConcat, IsConcatFault}
use Rattle.flat_stack.specs.Ready.{IsReady}
use Rattle.flat_stack.specs.Tooled.{IsTooled, IsToolFault}
use Rattle.flat_stack.specs.declared.step_faults.ToolFault.{ToolFault}
use Rattle.flat_stack.specs.declared.step_faults.ToolFault.TheVariants as tool
use Rattle.otio_model.specs.declared.objects.Object.{Timeline as ObjectOfTimeline}
use Rattle.command_words.specs.declared.tools.ToolAsked.{ToolAsked}
use Rattle.otio_tools.specs.Served.{PlansGiven}
use Rattle.otio_tools.proofs.Serving.{given_planned, given_stopped}
use Rattle.otio_tools.specs.declared.planning.Planned.{Planned}
use Rattle.otio_tools.specs.declared.planning.Planned.TheVariants.{Events, Noted, Value, Root, OldRoot, Rows, Edited, Listed, Text, Media}

-- ---- the names of lists

ends_or : (b : ℕ) (name : List ℕ) (t : Bool) → bytes_eq (b ∷ name) (codes ".edl") ≡ t
    → (IsListName name → is_list name ≡ true) → IsListName (b ∷ name)
    → (t || is_list name) ≡ true
ends_or b name true e more l = refl
ends_or b name false e more ([], same) =
    absurd (let k : true ≡ false = sym ((bytes_eq-Decides (b ∷ name) (codes ".edl")).1 same) ∙ e in cc k)
ends_or b name false e more (c ∷ stem, same) =
    more (stem, let k = same in cc)

is_list_of : (name : List ℕ) → IsListName name → is_list name ≡ true
is_list_of [] ([], same) = absurd (cc same)
is_list_of [] (c ∷ stem, same) = absurd (cc same)
is_list_of (b ∷ name) l =
    ends_or b name (bytes_eq (b ∷ name) (codes ".edl")) refl (is_list_of name) l

list_or : (b : ℕ) (name : List ℕ) (t : Bool) → bytes_eq (b ∷ name) (codes ".edl") ≡ t
    → (is_list name ≡ true → IsListName name) → (t || is_list name) ≡ true
    → IsListName (b ∷ name)
list_or b name true e more l = ([], (bytes_eq-Decides (b ∷ name) (codes ".edl")).0 e)
list_or b name false e more l = let k = more l in (b ∷ k.0, ap (λ n. b ∷ n) k.1)

list_is : (name : List ℕ) → is_list name ≡ true → IsListName name
list_is [] e = absurd (cc e)
list_is (b ∷ name) e =
    list_or b name (bytes_eq (b ∷ name) (codes ".edl")) refl (list_is name) e

pub by_truth : (r s : Bool) → (IsTrue r → s ≡ true) → (s ≡ true → IsTrue r) → r ≡ s
by_truth true s to from = sym (to refl)
by_truth false true to from = absurd (cc (from refl))
by_truth false false to from = refl

-- a name is that of a list where it is taken for one
pub list_named : (result : Bool) (name : List ℕ) → (IsTrue result ↔ IsListName name)
    → result ≡ is_list name
list_named result name h =
    by_truth result (is_list name) (λ t. is_list_of name (h.0 t)) (λ e. h.1 (list_is name e))

-- ---- commands on several files

pub no_edit_several : (command : Command) → takes_several command ≡ true → EditsTimeline command
    → ⊥
no_edit_several Cat e t = t
no_edit_several (ListCat rate) e t = t
no_edit_several (Tool asked) e t = t
no_edit_several (ListTool rate asked) e t = t
no_edit_several Stat e t = t
no_edit_several (ListStat rate) e t = t
no_edit_several (Pull handles) e t = t
no_edit_several (ListPull rate handles) e t = t
no_edit_several (ListToList rate drop wide notes) e t = t
no_edit_several (ListToObjects rate older notes) e t = t
no_edit_several (TimelineToList drop wide notes) e t = t
no_edit_several (ToObjects older) e t = t
no_edit_several ToJson e t = t
no_edit_several LogToMedia e t = t
no_edit_several (Frames asked) e t = t
no_edit_several (ListFrames rate asked) e t = t
no_edit_several Edit e t = cc e
no_edit_several (ListEdit rate) e t = cc e

-- none of them has a script
pub no_script_several : (command : Command) (script : Option (List ℕ))
    → takes_several command ≡ true → IsScripted command script → script ≡ None
no_script_several command None e s = refl
no_script_several command (Some name) e s = absurd (no_edit_several command e s)

-- the files of such a command
pub files_several : (command : Command) (name : List ℕ) (others : OtherNames)
    → takes_several command ≡ true → others.script ≡ None
    → map (input_named command) (name ∷ others.more) ++ media_source others.media
    ≡ files_of command name others
files_several command name others e s =
    ap₂ (λ (t : Bool) (o : Option (List ℕ)). (input_named command name
    ∷ cond t (map (input_named command) others.more) [])
    ++ (script_source o ++ media_source others.media)) (sym e) (sym s)

-- what is asked of a command on one file
pub asked_as : (command : Command) (name : List ℕ) (others : OtherNames)
    (target : Option (List ℕ)) → takes_several command ≡ false
    → asked_alone command name others target ≡ asked_for command name others target
asked_as Stat name others target e = refl
asked_as (ListStat rate) name others target e = refl
asked_as (Pull handles) name others target e = refl
asked_as (ListPull rate handles) name others target e = refl
asked_as (ListToList rate drop wide notes) name others target e = refl
asked_as (ListToObjects rate older notes) name others target e = refl
asked_as (TimelineToList drop wide notes) name others target e = refl
asked_as (ToObjects older) name others target e = refl
asked_as ToJson name others target e = refl
asked_as LogToMedia name others target e = refl
asked_as (Frames asked) name others target e = refl
asked_as (ListFrames rate asked) name others target e = refl
asked_as Edit name others target e = refl
asked_as (ListEdit rate) name others target e = refl
asked_as Cat name others target e = absurd (cc e)
asked_as (ListCat rate) name others target e = absurd (cc e)
asked_as (Tool asked) name others target e = absurd (cc e)
asked_as (ListTool rate asked) name others target e = absurd (cc e)

pub leaves_none : (command : Command) (contents : List Content) (planned : Planned)
    → (EditsTimeline command → ⊥) → (IsDesk planned → ⊥) → LeavesWork command contents planned
leaves_none command contents (Edited desk) other none = absurd (none tt)
leaves_none command contents (Events list drop wide) other none = other
leaves_none command contents (Noted list said drop wide) other none = other
leaves_none command contents (Value value) other none = other
leaves_none command contents (Root object) other none = other
leaves_none command contents (OldRoot object) other none = other
leaves_none command contents (Rows timeline listing) other none = other
leaves_none command contents (Listed timeline asked) other none = other
leaves_none command contents (Text text) other none = other
leaves_none command contents (Media list) other none = other

pub leaves_nothing : (command : Command) (contents : List Content)
    (result : Result Planned SourceFault) → takes_several command ≡ true
    → IfOk result (λ planned. IsDesk planned → ⊥) → IfOk result (LeavesWork command contents)
leaves_nothing command contents (Ok planned) e none =
    leaves_none command contents planned (no_edit_several command e) none
leaves_nothing command contents (Err stop) e none = tt

-- ---- names and sources, one more

pub names_more : (name : List ℕ) (names : List (Bor (List ℕ))) (more rest : List (Bor (List ℕ)))
    (other : Bor (List ℕ)) → names_now names ≡ name ∷ names_now more → rest ≡ more ++ other ∷ []
    → names_now (names ++ other ∷ []) ≡ name ∷ names_now rest
names_more name names more rest other e f =
    now_append names (other ∷ []) ∙ ap (λ l. l ++ other.now ∷ []) e
    ∙ ap (λ l. name ∷ l) (sym (now_append more (other ∷ []))) ∙ sym (ap (λ l. name ∷ names_now l) f)
  where
    now_append : (a b : List (Bor (List ℕ))) → names_now (a ++ b) ≡ names_now a ++ names_now b
    now_append [] b = refl
    now_append (x ∷ a) b = ap (λ l. x.now ∷ l) (now_append a b)

pub sources_append : (a : List InputFile) (s : InputFile)
    → map input_source (a ++ s ∷ []) ≡ map input_source a ++ input_source s ∷ []
sources_append [] s = refl
sources_append (x ∷ a) s = ap (λ l. input_source x ∷ l) (sources_append a s)

named_append : (command : Command) (names : List (Bor (List ℕ))) (name : Bor (List ℕ))
    → map (input_named command) (names_now (names ++ name ∷ []))
    ≡ map (input_named command) (names_now names) ++ input_named command name.now ∷ []
named_append command [] name = refl
named_append command (n ∷ names) name =
    ap (λ l. input_named command n.now ∷ l) (named_append command names name)

pub sources_more : (command : Command) (sources : List InputFile)
    (names rest : List (Bor (List ℕ))) (name : Bor (List ℕ)) (source : InputFile)
    → map input_source sources ≡ map (input_named command) (names_now names)
    → rest ≡ names ++ name ∷ [] → input_source source ≡ input_named command name.now
    → map input_source (sources ++ source ∷ []) ≡ map (input_named command) (names_now rest)
sources_more command sources names rest name source e f s =
    sources_append sources source ∙ ap₂ (λ (l : List Source) (x : Source). l ++ x ∷ []) e s
    ∙ sym (named_append command names name)
    ∙ sym (ap (λ l. map (input_named command) (names_now l)) f)

-- ---- what several inputs hold, and the media list after them

-- the inputs of what was read, by their names
behind_none : (files : List Source) (rows : MediaRows) → inputs_in files (media_content rows) ≡ []
behind_none [] None = refl
behind_none [] (Some rows) = refl
behind_none (file ∷ files) None = refl
behind_none (file ∷ files) (Some rows) = refl

inputs_held : (command : Command) (names : List (List ℕ)) (files : List Source)
    (front : List Content) (rows : MediaRows) → length front ≡ length names → All IsEditable front
    → inputs_in (map (input_named command) names ++ files) (front ++ media_content rows)
    ≡ named_inputs names front
inputs_held command [] files [] rows l a = behind_none files rows
inputs_held command [] files (c ∷ cs) rows l a = absurd (omega (arith, l))
inputs_held command (name ∷ names) files [] rows l a = absurd (omega (arith, l))
inputs_held command (name ∷ names) files (content.Film t ∷ cs) rows l a =
    ap (λ is. record { name = name; content = content.Film t } ∷ is)
    (inputs_held command names files cs rows (omega (arith, l)) (All-tail IsEditable _ cs a))
inputs_held command (name ∷ names) files (content.Events t ∷ cs) rows l a =
    ap (λ is. record { name = name; content = content.Events t } ∷ is)
    (inputs_held command names files cs rows (omega (arith, l)) (All-tail IsEditable _ cs a))
inputs_held command (name ∷ names) files (content.Value t ∷ cs) rows l a =
    absurd (All-head IsEditable (content.Value t) cs a)
inputs_held command (name ∷ names) files (content.Root t ∷ cs) rows l a =
    absurd (All-head IsEditable (content.Root t) cs a)
inputs_held command (name ∷ names) files (content.Noted t said ∷ cs) rows l a =
    absurd (All-head IsEditable (content.Noted t said) cs a)
inputs_held command (name ∷ names) files (content.Rows t ∷ cs) rows l a =
    absurd (All-head IsEditable (content.Rows t) cs a)
inputs_held command (name ∷ names) files (content.Commands t ∷ cs) rows l a =
    absurd (All-head IsEditable (content.Commands t) cs a)

media_held_behind : (front : List Content) (rows : MediaRows) → All IsEditable front
    → media_behind (front ++ media_content rows) ≡ rows
media_held_behind [] None a = refl
media_held_behind [] (Some rows) a = refl
media_held_behind (content.Film t ∷ cs) rows a =
    media_held_behind cs rows (All-tail IsEditable (content.Film t) cs a)
media_held_behind (content.Events t ∷ cs) rows a =
    media_held_behind cs rows (All-tail IsEditable (content.Events t) cs a)
media_held_behind (content.Value t ∷ cs) rows a =
    absurd (All-head IsEditable (content.Value t) cs a)
media_held_behind (content.Root t ∷ cs) rows a =
    absurd (All-head IsEditable (content.Root t) cs a)
media_held_behind (content.Noted t said ∷ cs) rows a =
    absurd (All-head IsEditable (content.Noted t said) cs a)
media_held_behind (content.Rows t ∷ cs) rows a =
    absurd (All-head IsEditable (content.Rows t) cs a)
media_held_behind (content.Commands t ∷ cs) rows a =
    absurd (All-head IsEditable (content.Commands t) cs a)

names_named : (names : List (List ℕ)) (front : List Content) → length front ≡ length names
    → map (λ (i : Input). i.name) (named_inputs names front) ≡ names
names_named [] front l = refl
names_named (name ∷ names) [] l = absurd (omega (arith, l))
names_named (name ∷ names) (c ∷ cs) l =
    ap (λ ns. name ∷ ns) (names_named names cs (omega (arith, l)))

-- ---- from the timelines to the answer

pub refused_as : (Is Also : Option (List ℕ) → Answer → Type 0)
    → ((target : Option (List ℕ)) (answer : Answer) → Is target answer → Also target answer)
    → (name : List ℕ) (fault : ReadFault) → IsRefusedAs Is name fault → IsRefusedAs Also name fault
refused_as Is Also by name Absent h = absurd h
refused_as Is Also by name Failed h = absurd h
refused_as Is Also by name (Refused (Broken reason)) h = λ target. by target _ (h target)
refused_as Is Also by name (Refused Memory) h = λ target. tt

pub plans_as : (Is Also : Option (List ℕ) → Answer → Type 0)
    → ((target : Option (List ℕ)) (answer : Answer) → Is target answer → Also target answer)
    → (result : Result Planned SourceFault) → PlansAs Is result → PlansAs Also result
plans_as Is Also by (Ok planned) h = λ target. by target _ (h target)
plans_as Is Also by (Err stop) h = refused_as Is Also by stop.name.now stop.fault h

held_several : (command : Command) (files : List Source) (target : Option (List ℕ))
    (contents : List Content) (answer : Answer) → takes_several command ≡ true
    → AnswersOpened (media_behind contents) (inputs_in files contents)
    (AnswersTimelines command (names_in files contents) target) answer
    → AnswersHeld command files target contents answer
held_several Cat files target contents answer e h = h
held_several (ListCat rate) files target contents answer e h = h
held_several (Tool asked) files target contents answer e h = h
held_several (ListTool rate asked) files target contents answer e h = h
held_several Stat files target contents answer e h = absurd (cc e)
held_several (ListStat rate) files target contents answer e h = absurd (cc e)
held_several (Pull handles) files target contents answer e h = absurd (cc e)
held_several (ListPull rate handles) files target contents answer e h = absurd (cc e)
held_several (ListToList rate drop wide notes) files target contents answer e h = absurd (cc e)
held_several (ListToObjects rate older notes) files target contents answer e h = absurd (cc e)
held_several (TimelineToList drop wide notes) files target contents answer e h = absurd (cc e)
held_several (ToObjects older) files target contents answer e h = absurd (cc e)
held_several ToJson files target contents answer e h = absurd (cc e)
held_several LogToMedia files target contents answer e h = absurd (cc e)
held_several (Frames asked) files target contents answer e h = absurd (cc e)
held_several (ListFrames rate asked) files target contents answer e h = absurd (cc e)
held_several Edit files target contents answer e h = absurd (cc e)
held_several (ListEdit rate) files target contents answer e h = absurd (cc e)

-- the answer to inputs by their names is that to what was read
abbrev AnswersNamed : Command → List (List ℕ) → List Content → MediaRows → Option (List ℕ) → Answer
    → Type 0
AnswersNamed command names front rows target answer =
    AnswersOpened rows (named_inputs names front) (AnswersTimelines command names target) answer

named_held : (command : Command) (names : List (List ℕ)) (media : Option (List ℕ))
    (front contents : List Content) (rows : MediaRows) (target : Option (List ℕ)) (answer : Answer)
    → takes_several command ≡ true → contents ≡ front ++ media_content rows
    → length front ≡ length names → All IsEditable front
    → AnswersNamed command names front rows target answer
    → AnswersHeld command (map (input_named command) names ++ media_source media) target contents
    answer
named_held command names media front contents rows target answer e are l a h =
    let files = map (input_named command) names ++ media_source media in
    let all = front ++ media_content rows in
    let is = inputs_held command names (media_source media) front rows l a in
    let called = ap (map (λ (i : Input). i.name)) is ∙ names_named names front l in
    subst (λ cs. AnswersHeld command files target cs answer) (sym are)
    (held_several command files target all answer e
    (subst (λ m. AnswersOpened m (inputs_in files all)
    (AnswersTimelines command (names_in files all) target) answer)
    (sym (media_held_behind front rows a))
    (subst (λ i. AnswersOpened rows i (AnswersTimelines command (names_in files all) target) answer)
    (sym is)
    (subst (λ n. AnswersOpened rows (named_inputs names front) (AnswersTimelines command n target)
    answer) (sym called) h))))

pub worked_held : (command : Command) (names : List (List ℕ)) (media : Option (List ℕ))
    (front contents : List Content) (rows : MediaRows) (timelines : List Timeline)
    (result : Result Planned SourceFault)
    → takes_several command ≡ true → contents ≡ front ++ media_content rows
    → length front ≡ length names → All IsEditable front
    → EachIs (IsOpenedInput rows) (named_inputs names front) timelines
    → PlansAs (λ target answer. AnswersTimelines command names target timelines answer) result
    → PlansHeld command (map (input_named command) names ++ media_source media) contents result
worked_held command names media front contents rows timelines result e are l a o h =
    plans_as (λ target answer. AnswersTimelines command names target timelines answer)
    (λ target answer. AnswersHeld command
    (map (input_named command) names ++ media_source media) target contents answer)
    (λ target answer k. named_held command names media front contents rows target answer e are l a
    (Opened timelines o k)) result h

-- ---- from an input that isn't opened to the answer

first_never : {A B W : Type 0} (Is : A → B → Type 0) (Not : A → W → Type 0) (xs : List A) (w : W)
    → ((a : A) → Not a w → ⊥) → FirstIsNot Is Not xs w → ⊥
first_never Is Not [] w never h = h
first_never Is Not (x ∷ xs) w never (inl h) = never x h
first_never Is Not (x ∷ xs) w never (inr h) = first_never Is Not xs w never h.2

stop_named : (command : Command) (names : List (List ℕ)) (front : List Content) (rows : MediaRows)
    (stop : SourceFault) (fault : ReadFault) → stop.fault ≡ fault
    → FirstIsNot (IsOpenedInput rows) (StopsOpening rows) (named_inputs names front) stop
    → IsRefusedAs (AnswersNamed command names front rows) stop.name.now fault
stop_named command names front rows stop Absent e h =
    absurd (first_never (IsOpenedInput rows) (StopsOpening rows) (named_inputs names front) stop
    (λ i s. subst (IsRefusedAt (IsUnopened i.content rows)) e s.1) h)
stop_named command names front rows stop Failed e h =
    absurd (first_never (IsOpenedInput rows) (StopsOpening rows) (named_inputs names front) stop
    (λ i s. subst (IsRefusedAt (IsUnopened i.content rows)) e s.1) h)
stop_named command names front rows stop (Refused Memory) e h = λ target. tt
stop_named command names front rows stop (Refused (Broken reason)) e h = λ target.
    Unopened (first_for (IsOpenedInput rows) (StopsOpening rows) (AnswersUnopened rows)
    (named_inputs names front) stop (refused stop.name.now (reason_text reason))
    (λ i s. (
      reason_text reason,
      subst (IsRefusedAt (IsUnopened i.content rows)) e s.1,
      ap (λ n. refused n (reason_text reason)) s.0,
    )) h)

pub stopped_held : (command : Command) (names : List (List ℕ)) (media : Option (List ℕ))
    (front contents : List Content) (rows : MediaRows) (stop : SourceFault)
    → takes_several command ≡ true → contents ≡ front ++ media_content rows
    → length front ≡ length names → All IsEditable front
    → FirstIsNot (IsOpenedInput rows) (StopsOpening rows) (named_inputs names front) stop
    → PlansHeld command (map (input_named command) names ++ media_source media) contents (Err stop)
stopped_held command names media front contents rows stop e are l a h =
    refused_as (AnswersNamed command names front rows)
    (λ target answer. AnswersHeld command
    (map (input_named command) names ++ media_source media) target contents answer)
    (λ target answer k. named_held command names media front contents rows target answer e are l a
    k) stop.name.now stop.fault (stop_named command names front rows stop stop.fault refl h)

-- ---- loops over names

pub names_next : (name : List ℕ) (names new more : List (Bor (List ℕ))) (i : ℕ)
    (d : Bor (List ℕ)) → i < length more → new ≡ names ++ get_or more i d ∷ []
    → names_now names ≡ name ∷ names_now (take i more)
    → names_now new ≡ name ∷ names_now (take (i + 1) more)
names_next name names new more i d h e inv =
    ap names_now e ∙ names_more name names (take i more) (take (i + 1) more) (get_or more i d) inv
    (take_more more i d h)

pub names_all : (xs : List (Bor (List ℕ))) → names_now (take (length xs) xs) ≡ names_now xs
names_all [] = refl
names_all (x ∷ xs) = ap (λ l. x.now ∷ l) (names_all xs)

pub names_length : (xs : List (Bor (List ℕ))) → length (names_now xs) ≡ length xs
names_length [] = refl
names_length (x ∷ xs) = ap suc (names_length xs)

-- the first name and the others, seen as a slice
pub names_gathered : (name : List ℕ) (names shown more : List (Bor (List ℕ)))
    → names_now names ≡ name ∷ names_now shown → shown ≡ more
    → names_now names ≡ name ∷ names_now more
names_gathered name names shown more are same = are ∙ ap (λ n. name ∷ names_now n) same

-- the inputs that a slice shows and a media list, by the names of the inputs
pub sources_named : (command : Command) (media : Option (List ℕ)) (slice sources : List InputFile)
    (shown names : List (Bor (List ℕ))) → slice ≡ sources
    → map input_source sources ≡ map (input_named command) (names_now shown) → shown ≡ names
    → map input_source slice ++ media_source media
    ≡ map (input_named command) (names_now names) ++ media_source media
sources_named command media slice sources shown names seen are same =
    ap (λ (l : List Source). l ++ media_source media)
    (ap (map input_source) seen ∙ are ∙ ap (λ n. map (input_named command) (names_now n)) same)

pub sources_next : (command : Command) (sources new : List InputFile)
    (names : List (Bor (List ℕ))) (i : ℕ) (d : Bor (List ℕ)) (source : InputFile)
    → i < length names → new ≡ sources ++ source ∷ []
    → input_source source ≡ input_named command (get_or names i d).now
    → map input_source sources ≡ map (input_named command) (names_now (take i names))
    → map input_source new ≡ map (input_named command) (names_now (take (i + 1) names))
sources_next command sources new names i d source h e s inv =
    ap (map input_source) e ∙ sources_more command sources (take i names) (take (i + 1) names)
    (get_or names i d) source inv (take_more names i d h) s

pub named_all : (command : Command) (xs : List (Bor (List ℕ)))
    → map (input_named command) (names_now (take (length xs) xs))
    ≡ map (input_named command) (names_now xs)
named_all command xs = ap (map (input_named command)) (names_all xs)

pub drop_next : (xs : List (Bor (List ℕ))) (i : ℕ) (d : Bor (List ℕ)) → i < length xs
    → names_now (drop i xs) ≡ (get_or xs i d).now ∷ names_now (drop (i + 1) xs)
drop_next [] i d h = absurd (omega (arith, h))
drop_next (x ∷ xs) zero d h = refl
drop_next (x ∷ xs) (suc i) d h =
    let n : suc (i + 1) ≡ suc i + 1 = omega (arith) in
    drop_next xs i d (omega (arith, h))
    ∙ ap (λ k. (get_or xs i d).now ∷ names_now (drop k (x ∷ xs))) n

pub drop_all : (xs : List (Bor (List ℕ))) → names_now (drop (length xs) xs) ≡ []
drop_all [] = refl
drop_all (x ∷ xs) = drop_all xs

-- ---- inputs that are opened, one after another

pub opening_first : (rows : MediaRows) (names : List (List ℕ)) (contents : List Content)
    → length contents ≡ length names → All IsEditable contents
    → IsOpening rows (named_inputs names contents) names contents []
opening_first rows names contents l a = record {
  front = [];
  are = refl;
  opened = tt;
  many = l;
  editable = a;
  ready = All-nil IsReady;
}

pub opening_some : (rows : MediaRows) (all : List Input) (names more : List (List ℕ))
    (name : List ℕ) (rest : List Content) (ts : List Timeline) → names ≡ name ∷ more
    → IsOpening rows all names rest ts → rest ≢ []
opening_some rows all names more name rest ts e o none =
    let l : length rest ≡ 0 = ap length none in
    let k : length names ≡ suc (length more) = ap length e in
    omega (arith, l, k, o.many)

pub next_editable : (rows : MediaRows) (all : List Input) (names : List (List ℕ))
    (rest behind : List Content) (held : Content) (ts : List Timeline)
    → IsOpening rows all names rest ts → rest ≡ held ∷ behind → IsEditable held
next_editable rows all names rest behind held ts o e =
    All-head IsEditable held behind (subst (All IsEditable) e o.editable)

append_one : {A : Type 0} (a : List A) (x : A) (b : List A) → a ++ x ∷ b ≡ (a ++ x ∷ []) ++ b
append_one [] x b = refl
append_one (y ∷ a) x b = ap (λ l. y ∷ l) (append_one a x b)

pub opening_more : (rows : MediaRows) (all : List Input) (names more : List (List ℕ))
    (name : List ℕ) (rest behind : List Content) (held : Content) (ts new : List Timeline)
    (t : Timeline) → names ≡ name ∷ more → IsOpening rows all names rest ts
    → rest ≡ held ∷ behind → IsOpened held rows t → IsReady t → new ≡ ts ++ t ∷ []
    → IsOpening rows all more behind new
opening_more rows all names more name rest behind held ts new t n o e is ready f =
    let input : Input = record { name = name; content = held } in record {
      front = o.front ++ input ∷ [];
      are = o.are ∙ ap₂ (λ (m : List (List ℕ)) (c : List Content). o.front ++ named_inputs m c) n e
          ∙ append_one o.front input (named_inputs more behind);
      opened = subst (EachIs (IsOpenedInput rows) (o.front ++ input ∷ [])) (sym f)
          (each_more (IsOpenedInput rows) o.front ts input t o.opened
          (is, ready.sound.faultless));
      many = let l : length rest ≡ suc (length behind) = ap length e in
          let k : length names ≡ suc (length more) = ap length n in
          omega (arith, l, k, o.many);
      editable = All-tail IsEditable held behind (subst (All IsEditable) e o.editable);
      ready = subst (All IsReady) (sym f) (All-push IsReady ts t o.ready ready);
    }

pub opening_last : (rows : MediaRows) (all : List Input) (names : List (List ℕ))
    (rest : List Content) (ts : List Timeline) → names ≡ [] → IsOpening rows all names rest ts
    → EachIs (IsOpenedInput rows) all ts
opening_last rows all names rest ts n o =
    subst (λ is. EachIs (IsOpenedInput rows) is ts)
    (sym (o.are ∙ ap (λ m. o.front ++ named_inputs m rest) n ∙ no_more o.front)) o.opened
  where
    no_more : (is : List Input) → is ++ [] ≡ is
    no_more [] = refl
    no_more (i ∷ is) = ap (λ l. i ∷ l) (no_more is)

refusal_as : (Why : List ℕ → Type 0) (fault : ReadFault) (refusal : Refusal)
    → fault ≡ Refused refusal → IsRefused Why refusal → IsRefusedAt Why fault
refusal_as Why fault refusal e h = subst (IsRefusedAt Why) (sym e) h

pub opening_stop : (rows : MediaRows) (all : List Input) (names more : List (List ℕ))
    (name : List ℕ) (rest behind : List Content) (held : Content) (ts : List Timeline)
    (stop : SourceFault) (refusal : Refusal) → names ≡ name ∷ more
    → IsOpening rows all names rest ts → rest ≡ held ∷ behind → stop.name.now ≡ name
    → stop.fault ≡ Refused refusal → IsRefused (IsUnopened held rows) refusal
    → FirstIsNot (IsOpenedInput rows) (StopsOpening rows) all stop
opening_stop rows all names more name rest behind held ts stop refusal n o e called fault why =
    let input : Input = record { name = name; content = held } in
    subst (λ is. FirstIsNot (IsOpenedInput rows) (StopsOpening rows) is stop)
    (sym (o.are ∙ ap₂ (λ (m : List (List ℕ)) (c : List Content). o.front ++ named_inputs m c) n e))
    (first_behind (IsOpenedInput rows) (StopsOpening rows) o.front (named_inputs more behind) ts
    input stop o.opened
    (called, refusal_as (IsUnopened held rows) stop.fault refusal fault why))

-- ---- the parts of what was read

-- as many timelines as names
each_many : (rows : MediaRows) (names : List (List ℕ)) (contents : List Content)
    (ts : List Timeline) → length contents ≡ length names
    → EachIs (IsOpenedInput rows) (named_inputs names contents) ts → length ts ≡ length names
each_many rows [] contents [] l e = refl
each_many rows [] contents (t ∷ ts) l e = absurd e
each_many rows (n ∷ names) [] ts l e = absurd (omega (arith, l))
each_many rows (n ∷ names) (c ∷ cs) [] l e = absurd e
each_many rows (n ∷ names) (c ∷ cs) (t ∷ ts) l e =
    ap suc (each_many rows names cs ts (omega (arith, l)) e.1)

pub each_joining : (command : Command) (rows : MediaRows) (names : List (Bor (List ℕ)))
    (contents : List Content) (ts : List Timeline) → length contents ≡ length names
    → EachIs (IsOpenedInput rows) (named_inputs (names_now names) contents) ts
    → HasJoining command (length names) → HasJoining command (length ts)
each_joining command rows names contents ts l e h =
    subst (HasJoining command) (sym (each_many rows (names_now names) contents ts
    (l ∙ sym (names_length names)) e ∙ names_length names)) h

pub each_some : (rows : MediaRows) (names : List (Bor (List ℕ))) (contents : List Content)
    (ts : List Timeline) → length contents ≡ length names
    → EachIs (IsOpenedInput rows) (named_inputs (names_now names) contents) ts
    → names ≢ [] → ts ≢ []
each_some rows [] contents ts l e some none = some refl
each_some rows (n ∷ names) contents [] l e some none =
    let k = each_many rows (names_now (n ∷ names)) contents [] (l ∙ sym (names_length (n ∷ names)))
    e in omega (arith, k)
each_some rows (n ∷ names) contents (t ∷ ts) l e some none = cc none

-- where an input isn't opened, the count of the files is what it was
pub stop_calm : (rows : MediaRows) (inputs : List Input) (stop : SourceFault) (n : ℕ)
    → FirstIsNot (IsOpenedInput rows) (StopsOpening rows) inputs stop → RaisedBy stop.fault n n
stop_calm rows inputs stop n h = calm_as stop.fault refl
  where
    calm_as : (fault : ReadFault) → stop.fault ≡ fault → RaisedBy fault n n
    calm_as Absent e = refl
    calm_as (Refused refusal) e = refl
    calm_as Failed e =
        absurd (first_never (IsOpenedInput rows) (StopsOpening rows) inputs stop
        (λ i s. subst (IsRefusedAt (IsUnopened i.content rows)) e s.1) h)

-- ---- what comes of timelines

refused_told : (Is : Option (List ℕ) → Answer → Type 0) (name : List ℕ) (why : ToolFault)
    (fault : ReadFault) → (why ≢ tool.Memory → (target : Option (List ℕ))
    → Is target (refused name (tool_fault_text why)))
    → IsRefusedAt (λ text. (why ≢ tool.Memory) × (text ≡ tool_fault_text why)) fault
    → IsRefusedAs Is name fault
refused_told Is name why Absent k h = absurd h
refused_told Is name why Failed k h = absurd h
refused_told Is name why (Refused (Broken reason)) k h = λ target.
    subst (λ text. Is target (refused name text)) (sym h.1) (k h.0 target)
refused_told Is name why (Refused Memory) k h = λ target. tt

pub not_joined_as : (names : List (List ℕ)) (ts : List Timeline) (why : ToolFault)
    (stop : SourceFault) → Told (IsConcatFault ts) why
    → (why ≢ tool.Memory → stop.name.now ≡ name_told names why)
    → IsRefusedAt (λ text. (why ≢ tool.Memory) × (text ≡ tool_fault_text why)) stop.fault
    → PlansAs (λ target answer. AnswersJoined names target ts answer) (Err stop)
not_joined_as names ts why stop told called h =
    refused_told (λ target answer. AnswersJoined names target ts answer) stop.name.now why stop.fault
    (λ n target. NotJoined why n (told n)
    (ap (λ m. refused m (tool_fault_text why)) (called n))) h

pub not_worked_as : (asked : ToolAsked) (names : List (List ℕ)) (ts : List Timeline)
    (why : ToolFault) (stop : SourceFault) → Told (IsToolFault asked ts) why
    → (why ≢ tool.Memory → stop.name.now ≡ name_told names why)
    → IsRefusedAt (λ text. (why ≢ tool.Memory) × (text ≡ tool_fault_text why)) stop.fault
    → PlansAs (λ target answer. AnswersTool asked names target ts answer) (Err stop)
not_worked_as asked names ts why stop told called h =
    refused_told (λ target answer. AnswersTool asked names target ts answer) stop.name.now why
    stop.fault (λ n target. NotWorked why n (told n)
    (ap (λ m. refused m (tool_fault_text why)) (called n))) h

pub worked_as : (asked : ToolAsked) (names : List (List ℕ)) (ts : List Timeline) (t : Timeline)
    (planned : Planned) → IsTooled asked ts t → text_planned planned ≡ tool_text asked t
    → PlansAs (λ target answer. AnswersTool asked names target ts answer) (Ok planned)
worked_as asked names ts t planned is text = λ target. Worked t is (ap (done target) text)

pub joined_as : (names : List (List ℕ)) (ts : List Timeline) (t : Timeline) → IsConcat ts t
    → PlansAs (λ target answer. AnswersJoined names target ts answer)
    (Ok (Root (ObjectOfTimeline t)))
joined_as names ts t is = λ target. Joined t is refl

-- ---- from what was read of several files to the plan

sources_are : (command : Command) (name : List ℕ) (others : OtherNames) (sources : List Source)
    (names : List (List ℕ)) → takes_several command ≡ true → IsScripted command others.script
    → sources ≡ map (input_named command) names ++ media_source others.media
    → names ≡ name ∷ others.more → sources ≡ files_of command name others
sources_are command name others sources names several scripted e f =
    e ∙ ap (λ n. map (input_named command) n ++ media_source others.media) f
    ∙ files_several command name others several
    (no_script_several command others.script several scripted)

pub several_given : (command : Command) (name : List ℕ) (others : OtherNames)
    (target : Option (List ℕ)) (sources : List Source) (names : List (List ℕ))
    (contents : List Content) (result : Result Planned SourceFault) (old new : List Handed)
    → takes_several command ≡ true → IsScripted command others.script
    → sources ≡ map (input_named command) names ++ media_source others.media
    → names ≡ name ∷ others.more → HandsOver (GivesAll sources contents) old new
    → PlansHeld command (map (input_named command) names ++ media_source others.media) contents
    result → IfOk result (λ planned. IsDesk planned → ⊥)
    → HandsOver (PlansGiven (asked_for command name others target) result) old new
several_given command name others target sources names contents result old new several scripted
    e f read told desk =
    let are = sources_are command name others sources names several scripted e f in
    given_planned (asked_for command name others target) contents result old new
    (subst (λ (l : List Source). HandsOver (GivesAll l contents) old new) are read)
    (subst (λ (l : List Source). PlansHeld command l contents result) (sym e ∙ are) told)
    (leaves_nothing command contents result several desk)

pub several_unread_given : (command : Command) (name : List ℕ) (others : OtherNames)
    (target : Option (List ℕ)) (sources : List Source) (names : List (List ℕ))
    (stop : SourceFault) (old new : List Handed)
    → takes_several command ≡ true → IsScripted command others.script
    → sources ≡ map (input_named command) names ++ media_source others.media
    → names ≡ name ∷ others.more
    → HandsOver (GivesStop sources stop.name.now stop.fault) old new
    → HandsOver (PlansGiven (asked_for command name others target) (Err stop)) old new
several_unread_given command name others target sources names stop old new several scripted e f
    stopped =
    given_stopped (asked_for command name others target) stop old new
    (subst (λ (l : List Source). HandsOver (GivesStop l stop.name.now stop.fault) old new)
    (sources_are command name others sources names several scripted e f) stopped)

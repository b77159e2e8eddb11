-- What is left on the desk.
use Rattle.std.proofs.Common.{◌≡◌, ℕ, List, [], ◌∷◌, Some, None, Result, Ok, Err, IfOk, IsSome, refl, sym, subst}
use Rattle.std.specs.declared.option.Option.{Option}
use Rattle.dev_io.specs.Handed.{Handed}
use Rattle.source_files.specs.HandedFiles.{HandsOver, GivesAll}
use Rattle.source_files.specs.Contents.{Content}
use Rattle.source_files.proofs.HandedLemmas.{hands_as, hands_none}
use Rattle.source_files.specs.declared.read_faults.Refusal.TheVariants.{Broken, Memory as WantOfMemory}
use Rattle.source_files.specs.declared.read_faults.ReadFault.{ReadFault}
use Rattle.source_files.specs.declared.read_faults.ReadFault.TheVariants as fault
use Rattle.source_files.specs.declared.read_faults.SourceFault.{SourceFault}
use Rattle.command_words.specs.Asked.{Ask, IsRequest, OtherNames}
use Rattle.command_words.specs.Given.{Given}
use Rattle.command_words.specs.declared.names.Verb.{Verb}
use Rattle.command_words.specs.declared.names.Verb.TheVariants as verbs
use Rattle.command_words.specs.declared.requests.Command.{Command}
use Rattle.command_words.specs.declared.requests.Command.TheVariants.{ListToList, ListToObjects, TimelineToList, ToObjects, ToJson, Frames, ListFrames, Edit, ListEdit}
use Rattle.command_words.specs.declared.requests.Command.TheVariants.{Cat, ListCat, Stat, ListStat, Tool, ListTool, Pull, ListPull, LogToMedia}
use Rattle.otio_tools.proofs.SeveralWords.{not_named}
use Rattle.otio_tools.specs.Asked.{Asked, EditsTimeline, IsScripted, asked_for, files_of}
use Rattle.otio_tools.specs.Plan.{Carries, Complains, IsDeskFor, LeavesWork, desk_after, desk_planned}
use Rattle.otio_tools.specs.Run.{Streams}
use Rattle.otio_tools.specs.Served.{PlansGiven}
use Rattle.otio_tools.specs.Worked.{AskNoEdit, IsWorkOf, LeavesGiven, WorksOn}
use Rattle.otio_tools.specs.declared.Desk.{Desk}
use Rattle.otio_tools.specs.declared.planning.Planned.{Planned}
use Rattle.otio_tools.specs.declared.planning.Planned.TheVariants.{Events, Noted, Value, Root, OldRoot, Rows, Edited, Listed, Text, Media}
use Rattle.otio_tools.specs.declared.Status.{Status}
use Rattle.otio_tools.specs.declared.Status.TheVariants.{Done, Usage, Refused, Input, Output, Memory}
use Rattle.otio_tools.proofs.RunEnds.{asks_for, asks_once}

-- ---- a script is named exactly for edits

some_named : (command : Command) (named script : Option (List ℕ)) → EditsTimeline command
    → IsSome named → script ≡ named → IsScripted command script
some_named command None script e there same = cc
some_named command (Some name) script e there same =
    subst (IsScripted command) (sym same) e

none_named : (command : Command) (script : Option (List ℕ)) → (EditsTimeline command → ⊥)
    → script ≡ None → IsScripted command script
none_named command script other same = subst (IsScripted command) (sym same) other

edit_named : (command : Command) (verb : Verb) (name : List ℕ) (others : OtherNames)
    (target : Option (List ℕ)) (given : Given) → IsRequest verb command name others target given
    → EditsTimeline command → IsSome given.script
edit_named Edit verbs.Edit name others target given r e = r.asked.script
edit_named (ListEdit rate) verbs.Edit name others target given r e = r.asked.script
edit_named Edit verbs.Drill name others target given r e = absurd r.asked
edit_named Edit verbs.Media name others target given r e =
    absurd (let k = r.asked.means in cc k)
edit_named (ListEdit rate) verbs.Drill name others target given r e = absurd r.asked
edit_named (ListEdit rate) verbs.Media name others target given r e =
    absurd (let k = r.asked.means in cc k)
edit_named Edit verbs.Convert name others target given r e = absurd r.asked.means
edit_named (ListEdit rate) verbs.Convert name others target given r e = absurd r.asked.means
edit_named Edit verbs.Frames name others target given r e = absurd r.asked.means
edit_named (ListEdit rate) verbs.Frames name others target given r e = absurd r.asked.means
edit_named Edit verbs.Cat name others target given r e =
    absurd (not_named Cat ListCat Edit (name ∷ given.more) r.asked.rate r.asked.means (λ k. cc k) (λ q k. cc k))
edit_named Edit verbs.Stat name others target given r e =
    absurd (not_named Stat ListStat Edit (name ∷ []) r.asked.rate r.asked.means (λ k. cc k) (λ q k. cc k))
edit_named Edit verbs.Tool name others target given r e =
    absurd (not_named (Tool r.asked.tool) (λ q. ListTool q r.asked.tool) Edit
    (name ∷ given.more) r.asked.rate r.asked.means (λ k. cc k) (λ q k. cc k))
edit_named (ListEdit rate) verbs.Cat name others target given r e =
    absurd (not_named Cat ListCat (ListEdit rate) (name ∷ given.more) r.asked.rate r.asked.means (λ k. cc k) (λ q k. cc k))
edit_named (ListEdit rate) verbs.Stat name others target given r e =
    absurd (not_named Stat ListStat (ListEdit rate) (name ∷ []) r.asked.rate r.asked.means (λ k. cc k) (λ q k. cc k))
edit_named (ListEdit rate) verbs.Tool name others target given r e =
    absurd (not_named (Tool r.asked.tool) (λ q. ListTool q r.asked.tool) (ListEdit rate)
    (name ∷ given.more) r.asked.rate r.asked.means (λ k. cc k) (λ q k. cc k))
edit_named Edit verbs.Pull name others target given r e =
    absurd (not_named (Pull r.asked.handles) (λ q. ListPull q r.asked.handles) Edit (name ∷ [])
    r.asked.rate r.asked.means (λ k. cc k) (λ q k. cc k))
edit_named (ListEdit rate) verbs.Pull name others target given r e =
    absurd (not_named (Pull r.asked.handles) (λ q. ListPull q r.asked.handles) (ListEdit rate)
    (name ∷ []) r.asked.rate r.asked.means (λ k. cc k) (λ q k. cc k))
edit_named (ListToList rate drop wide notes) verb name others target given r e = absurd e
edit_named (ListToObjects rate older notes) verb name others target given r e = absurd e
edit_named (TimelineToList drop wide notes) verb name others target given r e = absurd e
edit_named (ToObjects older) verb name others target given r e = absurd e
edit_named ToJson verb name others target given r e = absurd e
edit_named LogToMedia verb name others target given r e = absurd e
edit_named (Frames asked) verb name others target given r e = absurd e
edit_named (ListFrames rate asked) verb name others target given r e = absurd e
edit_named Stat verb name others target given r e = absurd e
edit_named (ListStat rate) verb name others target given r e = absurd e
edit_named (Pull handles) verb name others target given r e = absurd e
edit_named (ListPull rate handles) verb name others target given r e = absurd e
edit_named Cat verb name others target given r e = absurd e
edit_named (ListCat rate) verb name others target given r e = absurd e
edit_named (Tool asked) verb name others target given r e = absurd e
edit_named (ListTool rate asked) verb name others target given r e = absurd e

scripted_by : (command : Command) (verb : Verb) (name : List ℕ) (others : OtherNames)
    (target : Option (List ℕ)) (given : Given) → IsRequest verb command name others target given
    → IsScripted command others.script
scripted_by Edit verb name others target given r =
    some_named Edit given.script others.script tt
    (edit_named Edit verb name others target given r tt) r.script_is
scripted_by (ListEdit rate) verb name others target given r =
    some_named (ListEdit rate) given.script others.script tt
    (edit_named (ListEdit rate) verb name others target given r tt) r.script_is
scripted_by (ListToList rate drop wide notes) verb name others target given r =
    none_named (ListToList rate drop wide notes) others.script (λ e. e) r.script_is
scripted_by (ListToObjects rate older notes) verb name others target given r =
    none_named (ListToObjects rate older notes) others.script (λ e. e) r.script_is
scripted_by (TimelineToList drop wide notes) verb name others target given r =
    none_named (TimelineToList drop wide notes) others.script (λ e. e) r.script_is
scripted_by (ToObjects older) verb name others target given r =
    none_named (ToObjects older) others.script (λ e. e) r.script_is
scripted_by ToJson verb name others target given r =
    none_named ToJson others.script (λ e. e) r.script_is
scripted_by LogToMedia verb name others target given r =
    none_named LogToMedia others.script (λ e. e) r.script_is
scripted_by (Frames asked) verb name others target given r =
    none_named (Frames asked) others.script (λ e. e) r.script_is
scripted_by (ListFrames rate asked) verb name others target given r =
    none_named (ListFrames rate asked) others.script (λ e. e) r.script_is
scripted_by Stat verb name others target given r =
    none_named Stat others.script (λ e. e) r.script_is
scripted_by (ListStat rate) verb name others target given r =
    none_named (ListStat rate) others.script (λ e. e) r.script_is
scripted_by (Pull handles) verb name others target given r =
    none_named (Pull handles) others.script (λ e. e) r.script_is
scripted_by (ListPull rate handles) verb name others target given r =
    none_named (ListPull rate handles) others.script (λ e. e) r.script_is
scripted_by Cat verb name others target given r =
    none_named Cat others.script (λ e. e) r.script_is
scripted_by (ListCat rate) verb name others target given r =
    none_named (ListCat rate) others.script (λ e. e) r.script_is
scripted_by (Tool asked) verb name others target given r =
    none_named (Tool asked) others.script (λ e. e) r.script_is
scripted_by (ListTool rate asked) verb name others target given r =
    none_named (ListTool rate asked) others.script (λ e. e) r.script_is

pub scripted : (words : List (List ℕ)) (command : Command) (name : List ℕ) (others : OtherNames)
    (target : Option (List ℕ)) → Ask words command name others target
    → IsScripted command others.script
scripted words command name others target ask =
    scripted_by command ask.verb name others target ask.given ask.is

-- ---- what is left

-- what is planned of what the files hold
abbrev pub HasPlanned : Asked → Planned → List Handed → Type 0
HasPlanned asked planned calls = (contents : List Content) × GivesAll asked.files contents calls
    × LeavesWork asked.command contents planned

work_of : (command : Command) (name : List ℕ) (others : OtherNames) (target : Option (List ℕ))
    (planned : Planned) (before : Option Desk) (calls : List Handed) → EditsTimeline command
    → HasPlanned (asked_for command name others target) planned calls
    → IsWorkOf (λ contents. GivesAll (files_of command name others) contents calls) command
    (desk_planned planned before)
work_of command name others target (Edited desk) before calls e w =
    record { contents = w.0; held = w.1; desk = desk; is = refl; work = w.2 }
work_of command name others target (Events list drop wide) before calls e w = absurd (w.2 e)
work_of command name others target (Noted list said drop wide) before calls e w = absurd (w.2 e)
work_of command name others target (Value value) before calls e w = absurd (w.2 e)
work_of command name others target (Root object) before calls e w = absurd (w.2 e)
work_of command name others target (OldRoot object) before calls e w = absurd (w.2 e)
work_of command name others target (Rows timeline listing) before calls e w = absurd (w.2 e)
work_of command name others target (Listed timeline asked) before calls e w = absurd (w.2 e)
work_of command name others target (Text text) before calls e w = absurd (w.2 e)
work_of command name others target (Media list) before calls e w = absurd (w.2 e)

-- another reading of the same words asks for the same
as_asked : (words : List (List ℕ)) (c d : Command) (a b : List ℕ) (m n : OtherNames)
    (s t : Option (List ℕ)) (planned : Planned) (calls : List Handed) → Ask words c a m s
    → Ask words d b n t → HasPlanned (asked_for c a m s) planned calls
    → HasPlanned (asked_for d b n t) planned calls
as_asked words c d a b m n s t planned calls p q w =
    let same = asks_once words (asked_for c a m s) (asked_for d b n t)
    (asks_for words c a m s p) (asks_for words d b n t q) in
    subst (λ (x : Asked). HasPlanned x planned calls) same w

works : (words : List (List ℕ)) (command : Command) (name : List ℕ) (others : OtherNames)
    (target : Option (List ℕ)) (planned : Planned) (before : Option Desk) (calls : List Handed)
    → Ask words command name others target
    → HasPlanned (asked_for command name others target) planned calls
    → WorksOn words (desk_planned planned before) (λ files contents. GivesAll files contents calls)
works words command name others target planned before calls w l =
    λ other called more aim e ask. work_of other called more aim planned before calls e
    (as_asked words command other name called others more target aim planned calls w ask l)

fault_leaves : (words : List (List ℕ)) (name : List ℕ) (d : Streams) (why : ReadFault)
    (status : Status) (before : Option Desk) (calls : List Handed) → Complains name why d status
    → LeavesGiven words status before calls
fault_leaves words name d fault.Absent status before calls c = rw c.status tt
fault_leaves words name d fault.Failed status before calls c = rw c.status tt
fault_leaves words name d (fault.Refused (Broken reason)) status before calls c = rw c.status tt
fault_leaves words name d (fault.Refused WantOfMemory) status before calls c = rw c.status tt

leaves_by : (words : List (List ℕ)) (command : Command) (name : List ℕ) (others : OtherNames)
    (target : Option (List ℕ)) (d : Streams) (plan : Result Planned SourceFault) (status : Status)
    (before : Option Desk) (calls : List Handed) → Ask words command name others target
    → PlansGiven (asked_for command name others target) plan calls → Carries target plan d status
    → LeavesGiven words status (desk_after plan before) calls
leaves_by words command name others target d (Ok planned) Done before calls w p c =
    works words command name others target planned before calls w (p.0, p.1, p.3)
leaves_by words command name others target d (Ok planned) Output before calls w p c =
    works words command name others target planned before calls w (p.0, p.1, p.3)
leaves_by words command name others target d (Ok planned) Usage before calls w p c = tt
leaves_by words command name others target d (Ok planned) Refused before calls w p c = tt
leaves_by words command name others target d (Ok planned) Input before calls w p c = tt
leaves_by words command name others target d (Ok planned) Memory before calls w p c = tt
leaves_by words command name others target d (Err stop) status before calls w p c =
    fault_leaves words stop.name.now d stop.fault status before calls c

-- what a run leaves on the desk
pub leaves : (words : List (List ℕ)) (command : Command) (name : List ℕ) (others : OtherNames)
    (target : Option (List ℕ)) (d : Streams) (plan : Result Planned SourceFault) (status : Status)
    (before after : Option Desk) (old new : List Handed) → Ask words command name others target
    → HandsOver (PlansGiven (asked_for command name others target) plan) old new
    → Carries target plan d status → after ≡ desk_after plan before
    → HandsOver (LeavesGiven words status after) old new
leaves words command name others target d plan status before after old new w p c e =
    subst (λ (x : Option Desk). HandsOver (LeavesGiven words status x) old new) (sym e)
    (hands_as (PlansGiven (asked_for command name others target) plan)
    (LeavesGiven words status (desk_after plan before)) old new
    (λ calls h. leaves_by words command name others target d plan status before calls w h c) p)

-- a run that asks for nothing leaves nothing to say
pub leaves_usage : (words : List (List ℕ)) (on_desk : Option Desk) (old : List Handed)
    → HandsOver (LeavesGiven words Usage on_desk) old old
leaves_usage words on_desk old = hands_none (LeavesGiven words Usage on_desk) old tt

-- nor does one where memory ran out over the arguments
pub leaves_unread : (words : List (List ℕ)) (status : Status) (on_desk : Option Desk)
    (old : List Handed) → status ≡ Memory → HandsOver (LeavesGiven words status on_desk) old old
leaves_unread words status on_desk old e =
    hands_none (LeavesGiven words status on_desk) old (rw e tt)

desk_alone : (command : Command) (planned : Planned) (before : Option Desk)
    → IsDeskFor command planned → (EditsTimeline command → ⊥) → desk_planned planned before ≡ before
desk_alone command (Edited desk) before is other = absurd (other (is tt))
desk_alone command (Events list drop wide) before is other = refl
desk_alone command (Noted list said drop wide) before is other = refl
desk_alone command (Value value) before is other = refl
desk_alone command (Root object) before is other = refl
desk_alone command (OldRoot object) before is other = refl
desk_alone command (Rows timeline listing) before is other = refl
desk_alone command (Listed timeline asked) before is other = refl
desk_alone command (Text text) before is other = refl
desk_alone command (Media list) before is other = refl

-- a command that edits nothing leaves the desk as it was
pub untouched : (command : Command) (plan : Result Planned SourceFault) (before : Option Desk)
    → IfOk plan (IsDeskFor command) → (EditsTimeline command → ⊥) → desk_after plan before ≡ before
untouched command (Ok planned) before is other = desk_alone command planned before is other
untouched command (Err stop) before is other = refl

pub no_edit : (words : List (List ℕ)) (command : Command) (name : List ℕ) (others : OtherNames)
    (target : Option (List ℕ)) → Ask words command name others target → AskNoEdit words
    → EditsTimeline command → ⊥
no_edit words command name others target ask none e = none command name others target e ask

-- From what was read of files to what is planned.
use Rattle.std.proofs.Common.{◌≡◌, ◌≢◌, ◌≤◌, ◌<◌, ◌^◌, ℕ, Bool, true, false, List, Some, None, Result, Ok, Err, IfOk, IfErr, refl, subst, ap, arith}
use Rattle.std.specs.declared.option.Option.{Option}
use Rattle.otio_model.specs.declared.objects.Object.{Object, Timeline as ObjectOfTimeline}
use Rattle.schema_write.specs.Objects.{newer, json_of, old_json_of, timeline_json}
use Rattle.schema_write.proofs.Trees.{object_in-Timeline}
use Rattle.source_files.specs.Reading.{IsRefused}
use Rattle.source_files.specs.declared.read_faults.Refusal.{Refusal}
use Rattle.source_files.specs.declared.read_faults.Refusal.TheVariants.{Broken, Memory}
use Rattle.media_rows.specs.Rows.{MediaRows}
use Rattle.edl_frames.specs.Conformed.{IsTimelineOf}
use Rattle.edl_frames.specs.Refused.{IsAccepted}
use Rattle.edl_frames.specs.Counted.{item_count}
use Rattle.edl_frames.specs.Faults.{IsConformFault}
use Rattle.edl_frames.specs.declared.faults.ConformFault.{ConformFault}
use Rattle.edl_frames.specs.declared.faults.ConformFault.TheVariants as conform
use Rattle.source_files.specs.Faults.{conform_fault_text, coord_fault_text, not_carried_text, family_fault_text}
use Rattle.schema_write.specs.OldForms.{IsOldFault}
use Rattle.schema_write.specs.declared.old_faults.FamilyFault.{FamilyFault}
use Rattle.schema_write.specs.declared.old_faults.FamilyFault.TheVariants as family
use Rattle.otio_tools.specs.Objects.{AnswersObject, NoForm}
use Rattle.coord.specs.Soundness.{IsFaultless, IsFaultOf}
use Rattle.coord.specs.declared.faults.CoordFault.{CoordFault}
use Rattle.coord.specs.declared.faults.CoordFault.TheVariants as coord
use Rattle.edl_frames.specs.Carried.{not_carried, IsListOf, IsNotCarried}
use Rattle.edl_law.specs.Premises.{AreListed}
use Rattle.edl_frames.specs.declared.reasons.NotCarried.{NotCarried}
use Rattle.edl_frames.specs.declared.reasons.NotCarried.TheVariants as carried
use Rattle.command_words.specs.declared.requests.FramesAsked.{FramesAsked}
use Rattle.otio_tools.specs.Frames.{AnswersTimeline, Unsound}
use Rattle.otio_tools.specs.Carried.{AnswersCarried, NotSound, Left}
use Rattle.edl_law.proofs.ItemCounts.{timeline_count}
use Rattle.limits.specs.Limits.{most_items}
use Rattle.otio_model.specs.Counts.{count as count_below}
use Rattle.note_text.specs.Noted.{IsNoted}
use Rattle.note_text.specs.declared.notes.Note.{Note}
use Rattle.otio_tools.specs.Forms.{Answer, refused}
use Rattle.otio_tools.specs.Written.{AnswersNoted, object_json, old_object_json}
use Rattle.otio_tools.specs.Tools.{AnswersCounted, Uncounted}
use Rattle.otio_tools.specs.Opened.{IsConformedTo}
use Rattle.otio_tools.specs.Plan.{Suffices, IsCarriedBy, media_content}
use Rattle.edl_list.specs.declared.list.EventList.{EventList}
use Rattle.otio_model.specs.declared.timelines.Timeline.{Timeline}
use Rattle.otio_tools.specs.Conformed.{media_in, AnswersConformed, Conformed, NotConformed}
use Rattle.otio_tools.specs.declared.planning.Planned.{Planned}

-- what is written of an object is its JSON
pub object_is : (object : Object) → object_json object ≡ json_of object
unfolding object_json
object_is object = refl

-- and in the older family its JSON there
pub old_object_is : (object : Object) → old_object_json object ≡ old_json_of object
unfolding old_object_json
old_object_is object = refl

-- what is written of a timeline is its JSON
pub timeline_is : (timeline : Timeline)
    → object_json (ObjectOfTimeline timeline) ≡ timeline_json timeline
unfolding object_json
timeline_is timeline = object_in-Timeline newer timeline

-- the media list after a list is the one that was read
pub media_is : (media : MediaRows) → media_in (media_content media) ≡ media
media_is None = refl
media_is (Some rows) = refl

refused_conformed : (name : List ℕ) (list : EventList) (media : MediaRows)
    (Is : Timeline → Answer → Type 0) (timeline : Timeline) (refusal : Refusal)
    → IsConformedTo list media timeline → IsRefused (λ why. Is timeline (refused name why)) refusal
    → IsRefused (λ why. AnswersConformed name list media Is (refused name why)) refusal
refused_conformed name list media Is timeline (Broken reason) c h =
    Conformed timeline c.is c.accepted c.few h
refused_conformed name list media Is timeline Memory c h = tt

-- what is planned of the timeline of a list is planned of the list
pub of_conformed : (name : List ℕ) (list : EventList) (media : MediaRows)
    (Is : Option (List ℕ) → Timeline → Answer → Type 0) (timeline : Timeline)
    (result : Result Planned Refusal) → IsConformedTo list media timeline
    → Suffices (λ target answer. Is target timeline answer) name result
    → Suffices (λ target answer. AnswersConformed name list media (Is target) answer) name result
of_conformed name list media Is timeline (Ok planned) c h =
    λ target. Conformed timeline c.is c.accepted c.few (h target)
of_conformed name list media Is timeline (Err refusal) c h =
    λ target. refused_conformed name list media (Is target) timeline refusal c (h target)

refused_noted : (name : List ℕ) (list : EventList) (notes : List Note)
    (Is : Timeline → Answer → Type 0) (timeline noted : Timeline) (refusal : Refusal)
    → IsNoted timeline list notes noted → IsRefused (λ why. Is noted (refused name why)) refusal
    → IsRefused (λ why. AnswersNoted list notes Is timeline (refused name why)) refusal
refused_noted name list notes Is timeline noted (Broken reason) is h = (noted, is, h)
refused_noted name list notes Is timeline noted Memory is h = tt

-- what is planned of a timeline with notes is planned of it
pub of_noted : (name : List ℕ) (list : EventList) (notes : List Note)
    (Is : Option (List ℕ) → Timeline → Answer → Type 0) (timeline noted : Timeline)
    (result : Result Planned Refusal) → IsNoted timeline list notes noted
    → Suffices (λ target answer. Is target noted answer) name result
    → Suffices (λ target answer. AnswersNoted list notes (Is target) timeline answer) name result
of_noted name list notes Is timeline noted (Ok planned) is h = λ target. (noted, is, h target)
of_noted name list notes Is timeline noted (Err refusal) is h =
    λ target. refused_noted name list notes (Is target) timeline noted refusal is (h target)

-- what a list conforms to
pub conformed_to : (list : EventList) (media : MediaRows) (result : Result Timeline ConformFault)
    → IfOk result (IsTimelineOf list media) → IfOk result (λ t. IsAccepted list media)
    → IfOk result (λ t. item_count list ≤ most_items) → IfOk result (IsConformedTo list media)
conformed_to list media (Ok timeline) is accepted few =
    record { is = is; accepted = accepted; few = few }
conformed_to list media (Err fault) is accepted few = tt

-- it has few items
pub few_conformed : (list : EventList) (media : MediaRows) (result : Result Timeline ConformFault)
    → IfOk result (IsTimelineOf list media) → IfOk result (λ t. item_count list ≤ most_items)
    → IfOk result (λ t. count_below t.tracks.children < 2 ^ 32)
few_conformed list media (Ok timeline) is few =
    let same = timeline_count list media timeline is in omega (arith, same, few)
few_conformed list media (Err fault) is few = tt

-- how a list that isn't conformed is refused
pub not_conformed_as : (name : List ℕ) (list : EventList) (media : MediaRows)
    (Is : Option (List ℕ) → Timeline → Answer → Type 0) (fault : ConformFault) (refusal : Refusal)
    → IsConformFault list media fault
    → IsRefused (λ why. (fault ≢ conform.Memory) × (why ≡ conform_fault_text fault)) refusal
    → Suffices (λ target answer. AnswersConformed name list media (Is target) answer) name
    (Err refusal)
not_conformed_as name list media Is fault (Broken reason) is told =
    λ target. NotConformed fault told.0 is (ap (refused name) told.1)
not_conformed_as name list media Is fault Memory is told = λ target. tt

-- how an object without a form in the older family is refused
pub without_form : (older : Bool) (name : List ℕ) (object : Object) (fault : FamilyFault)
    (refusal : Refusal) → older ≡ true → IsOldFault object fault
    → IsRefused (λ why. (fault ≢ family.Memory) × (why ≡ family_fault_text fault)) refusal
    → Suffices (λ target answer. AnswersObject older name target object answer) name (Err refusal)
without_form true name object fault (Broken reason) asked is told =
    λ target. NoForm fault told.0 is (ap (refused name) told.1)
without_form true name object fault Memory asked is told = λ target. tt
without_form false name object fault refusal asked is told = absurd (cc asked)

-- how a timeline that isn't sound is refused where its frames are asked for
pub unsound_frames : (asked : FramesAsked) (name : List ℕ) (timeline : Timeline)
    (fault : CoordFault) (refusal : Refusal) → IsFaultOf timeline fault
    → IsRefused (λ why. (fault ≢ coord.Memory) × (why ≡ coord_fault_text fault)) refusal
    → Suffices (λ target answer. AnswersTimeline asked name target timeline answer) name
    (Err refusal)
unsound_frames asked name timeline fault (Broken reason) is told =
    λ target. Unsound fault told.0 is (ap (refused name) told.1)
unsound_frames asked name timeline fault Memory is told = λ target. tt

-- how one is refused where it is to be written as a list
pub unsound_list : (notes drop wide : Bool) (name : List ℕ) (media : MediaRows) (timeline :
    Timeline)
    (fault : CoordFault) (refusal : Refusal) → IsFaultOf timeline fault
    → IsRefused (λ why. (fault ≢ coord.Memory) × (why ≡ coord_fault_text fault)) refusal
    → Suffices (λ target answer. AnswersCarried notes drop wide name media target timeline
    answer) name
    (Err refusal)
unsound_list notes drop wide name media timeline fault (Broken reason) is told =
    λ target. NotSound fault told.0 is (ap (refused name) told.1)
unsound_list notes drop wide name media timeline fault Memory is told = λ target. tt

-- how a sound timeline is refused that a list doesn't carry
pub left_as : (notes drop wide : Bool) (name : List ℕ) (media : MediaRows) (timeline : Timeline)
    (fault : NotCarried) (refusal : Refusal) → IsFaultless timeline
    → IsNotCarried timeline media drop wide fault
    → IsRefused (λ why. (fault ≢ carried.Memory) × (why ≡ not_carried_text fault)) refusal
    → Suffices (λ target answer. AnswersCarried notes drop wide name media target timeline
    answer) name
    (Err refusal)
left_as notes drop wide name media timeline fault (Broken reason) sound is told =
    λ target. Left sound fault told.0 is (ap (refused name) told.1)
left_as notes drop wide name media timeline fault Memory sound is told = λ target. tt

-- the list of a timeline's events, asked for with this media list
carried_with : (t : Timeline) (media : MediaRows) (drop wide : Bool)
    (result : Result EventList NotCarried) → IfOk result (IsListOf t media drop wide)
    → IfOk result (λ list. not_carried t media drop wide ≡ None) → AreListed media
    → IfOk result (IsCarriedBy t media drop wide)
carried_with t media drop wide (Ok list) is carried listed =
    record { is = is; carried = carried; listed = listed }
carried_with t media drop wide (Err fault) is carried listed = tt

pub carried_by : (t : Timeline) (asked media : MediaRows) (drop wide : Bool)
    (result : Result EventList NotCarried) → asked ≡ media
    → IfOk result (IsListOf t asked drop wide)
    → IfOk result (λ list. not_carried t asked drop wide ≡ None) → AreListed asked
    → IfOk result (IsCarriedBy t media drop wide)
carried_by t asked media drop wide result e is carried listed =
    subst (λ m. IfOk result (IsCarriedBy t m drop wide)) e
    (carried_with t asked drop wide result is carried listed)

pub left_by : (t : Timeline) (asked media : MediaRows) (drop wide : Bool)
    (result : Result EventList NotCarried) → asked ≡ media
    → IfErr result (IsNotCarried t asked drop wide)
    → IfErr result (IsNotCarried t media drop wide)
left_by t asked media drop wide result e h =
    subst (λ m. IfErr result (IsNotCarried t m drop wide)) e h

-- how one is refused where it is counted
pub unsound_counts : (name : List ℕ) (timeline : Timeline) (fault : CoordFault) (refusal : Refusal)
    → IsFaultOf timeline fault
    → IsRefused (λ why. (fault ≢ coord.Memory) × (why ≡ coord_fault_text fault)) refusal
    → Suffices (λ target answer. AnswersCounted name target timeline answer) name (Err refusal)
unsound_counts name timeline fault (Broken reason) is told =
    λ target. Uncounted fault told.0 is (ap (refused name) told.1)
unsound_counts name timeline fault Memory is told = λ target. tt

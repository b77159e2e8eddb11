-- Bytes are one thing, or are refused for one reason, and never both.
use Rattle.std.proofs.Common.{◌≡◌, ℕ, Option, List, Some, None, refl, sym, ap, subst, ◌∙◌, inl, inr}
use Rattle.std.proofs.lemmas.Option.{same_Some}
use Rattle.json_text.proofs.OneText.{text_once, fault_once as json_fault_once, fault_or_text}
use Rattle.json_value.specs.declared.Json.{Json}
use Rattle.tick_time.specs.declared.rates.Rate.{Rate}
use Rattle.edl_text.proofs.OneFault.{one_fault, list_or_fault}
use Rattle.otio_model.specs.declared.objects.Object.{Object, Timeline as ObjectOfTimeline, out-Object}
use Rattle.otio_model.specs.declared.objects.Object.TheOpen.{Object-F}
use Rattle.otio_model.specs.declared.objects.Object.TheViews.{roll-Object, roll-out-Object}
use Rattle.otio_model.specs.declared.objects.Object.TheFolds.{fold-roll-Object}
use Rattle.otio_model.specs.declared.objects.Collection.{Collection}
use Rattle.otio_model.specs.declared.timelines.Timeline.{Timeline}
use Rattle.otio_model.specs.Timelines.{bare}
use Rattle.schema_up.specs.Upgrades.{upgraded}
use Rattle.schema_rows.specs.Stands.{Stands}
use Rattle.schema_rows.specs.Faults.{IsFirstFault}
use Rattle.schema_write.specs.Objects.{Style, newer, older, json_of, old_json_of, object_in, object_step, collection_step}
use Rattle.object_law.proofs.SeenValues.{Folded, of_object}
use Rattle.object_law.proofs.Verdicts.{folded_once, has_one_fault, is_never_both}
use Rattle.media_list.specs.Lists.{IsMediaList}
use Rattle.media_list.proofs.OneOutcome.{fault_once as media_fault_once, list_or_fault as media_or_fault}
use Rattle.ale_text.specs.Logs.{IsLog}
use Rattle.ale_text.proofs.OneOutcome.{fault_once as ale_fault_once, log_or_fault}
use Rattle.media_rows.specs.declared.row.MediaRow.{MediaRow}
use Rattle.source_files.specs.Faults.{ale_fault_text, json_fault_text, list_fault_text, media_fault_text, fault_text, script_fault_text}
use Rattle.edit_script.specs.Scripts.{IsScript}
use Rattle.edit_script.specs.declared.commands.ScriptCommand.{ScriptCommand}
use Rattle.edit_script.proofs.Once.{fault_once as script_fault_once, never_both as script_or_fault}
use Rattle.source_files.specs.Formats.{IsJson, IsObject, IsTimeline, IsNoTimeline, Holds, Refuses, RefusesJson, RefusesObject, RefusesTimeline, RefusesList, RefusesMedia, RefusesLog, RefusesScript}
use Rattle.source_files.specs.Kinds.{Kind}
use Rattle.source_files.specs.Kinds as kinds
use Rattle.source_files.specs.Contents.{Content, Value, Root, Film, Events, Noted, Rows, Commands}

json_reason_once : (bytes v w : List ℕ) → RefusesJson bytes v → RefusesJson bytes w → v ≡ w
json_reason_once bytes v w p q =
    p.2 ∙ ap json_fault_text (json_fault_once bytes p.0 q.0 p.1 q.1) ∙ sym q.2

json_or_reason : (bytes why : List ℕ) (value : Json) → IsJson bytes value → RefusesJson bytes why
    → ⊥
json_or_reason bytes why value is p = fault_or_text bytes value p.0 is.small is.text p.1

-- objects in JSON, as a fold that sets spare memory aside
abbrev in_json : Style → Folded
in_json style = record {
  A = Json;
  B = Json;
  object = object_step style;
  collection = collection_step;
  spare =
      λ t. refl;
}

one_json : (style : Style) (value : Json) (a b : Object) → Stands value a → Stands value b
    → object_in style a ≡ object_in style b
one_json style = folded_once (in_json style)

object_reason_once : (bytes v w : List ℕ) → RefusesObject bytes v → RefusesObject bytes w → v ≡ w
object_reason_once bytes v w (inl p) (inl q) = json_reason_once bytes v w p q
object_reason_once bytes v w (inl p) (inr q) = absurd (json_or_reason bytes v q.0 q.1 p)
object_reason_once bytes v w (inr p) (inl q) = absurd (json_or_reason bytes w p.0 p.1 q)
object_reason_once bytes v w (inr p) (inr q) =
    let same : q.0 ≡ p.0 = text_once bytes q.0 p.0 q.1.text p.1.text in
    let why : IsFirstFault (upgraded p.0) q.2.0 =
    subst (λ (x : Json). IsFirstFault (upgraded x) q.2.0) same q.2.1 in
    p.2.2 ∙ ap fault_text (has_one_fault (upgraded p.0) p.2.0 q.2.0 p.2.1 why) ∙ sym q.2.2

object_or_reason : (bytes why : List ℕ) (object : Object) → IsObject bytes object
    → RefusesObject bytes why → ⊥
object_or_reason bytes why object is (inl p) = json_or_reason bytes why is.value is.text p
object_or_reason bytes why object is (inr p) =
    let same : p.0 ≡ is.value = text_once bytes p.0 is.value p.1.text is.text.text in
    is_never_both (upgraded is.value) object p.2.0 is.stands is.few
    (subst (λ (v : Json). IsFirstFault (upgraded v) p.2.0) same p.2.1)

-- the value of the file stands for both of two objects that it holds
pub stands_too : (bytes : List ℕ) (a b : Object) (p : IsObject bytes a) → IsObject bytes b
    → Stands (upgraded p.value) b
stands_too bytes a b p q = subst (λ (v : Json). Stands (upgraded v) b)
    (text_once bytes q.value p.value q.text.text p.text.text) q.stands

-- the timeline at a root, its spare memory set aside
abbrev timeline_at : {A B : Type 0} → Object-F A B → Option Timeline
timeline_at (Object-F.Timeline t) = Some (bare t)
timeline_at (Object-F.Collection c) = None
timeline_at (Object-F.Item i) = None

-- timelines at roots, as a fold that sets spare memory aside
abbrev in_roots : Folded
in_roots = record {
  A = Option Timeline;
  B = Unit {0};
  object = timeline_at;
  collection = λ c. tt;
  spare = λ t. refl;
}

root_level : (layer : Object-F Object Collection)
    → of_object in_roots (roll-Object layer) ≡ timeline_at layer
root_level (Object-F.Timeline t) =
    fold-roll-Object in_roots.A in_roots.B in_roots.object in_roots.collection (Object-F.Timeline t)
root_level (Object-F.Collection c) =
    fold-roll-Object in_roots.A in_roots.B in_roots.object in_roots.collection
    (Object-F.Collection c)
root_level (Object-F.Item i) =
    fold-roll-Object in_roots.A in_roots.B in_roots.object in_roots.collection (Object-F.Item i)

root_is : (object : Object) → of_object in_roots object ≡ timeline_at (out-Object object)
root_is object = ap (of_object in_roots) (sym (roll-out-Object object))
    ∙ root_level (out-Object object)

one_root : (value : Json) (a b : Object) → Stands value a → Stands value b
    → timeline_at (out-Object a) ≡ timeline_at (out-Object b)
one_root value a b p q = sym (root_is a) ∙ folded_once in_roots value a b p q ∙ root_is b

-- two objects of the same bytes have the same JSON
pub object_json_once : (bytes : List ℕ) (a b : Object) → IsObject bytes a → IsObject bytes b
    → json_of a ≡ json_of b
object_json_once bytes a b p q =
    one_json newer (upgraded p.value) a b p.stands (stands_too bytes a b p q)

-- and in the older family
pub old_json_once : (bytes : List ℕ) (a b : Object) → IsObject bytes a → IsObject bytes b
    → old_json_of a ≡ old_json_of b
old_json_once bytes a b p q =
    one_json older (upgraded p.value) a b p.stands (stands_too bytes a b p q)

timeline_json : (style : Style) (t : Timeline) → object_in style (ObjectOfTimeline t)
    ≡ object_step style (Object-F.Timeline (bare t))
unfolding Rattle.otio_model.specs.declared.objects.Object.TheViews.roll-Object
    denote.Hole.Carrier.roll
timeline_json style t =
    fold-roll-Object (in_json style).A (in_json style).B (in_json style).object
    (in_json style).collection (Object-F.Timeline t) ∙ (in_json style).spare t

-- two timelines that differ in spare memory at the most have the same JSON
pub bare_json : (t u : Timeline) → bare t ≡ bare u
    → json_of (ObjectOfTimeline t) ≡ json_of (ObjectOfTimeline u)
bare_json t u same =
    timeline_json newer t ∙ ap (λ x. object_step newer (Object-F.Timeline x)) same
    ∙ sym (timeline_json newer u)

-- and in the older family
pub bare_old_json : (t u : Timeline) → bare t ≡ bare u
    → old_json_of (ObjectOfTimeline t) ≡ old_json_of (ObjectOfTimeline u)
bare_old_json t u same =
    timeline_json older t ∙ ap (λ x. object_step older (Object-F.Timeline x)) same
    ∙ sym (timeline_json older u)

roots_once : (bytes : List ℕ) (a b : Object) → IsObject bytes a → IsObject bytes b
    → timeline_at (out-Object a) ≡ timeline_at (out-Object b)
roots_once bytes a b p q = one_root (upgraded p.value) a b p.stands (stands_too bytes a b p q)

-- two timelines of the same bytes differ in spare memory at the most
pub timeline_bare_once : (bytes : List ℕ) (t u : Timeline) → IsTimeline bytes t → IsTimeline bytes u
    → bare t ≡ bare u
timeline_bare_once bytes t u p q =
    same_Some _ _ (ap timeline_at (sym p.root) ∙ roots_once bytes p.object q.object p.is q.is
    ∙ ap timeline_at q.root)

no_timeline : (layer : Object-F Object Collection) → IsNoTimeline layer → timeline_at layer ≡ None
no_timeline (Object-F.Timeline t) h = absurd h
no_timeline (Object-F.Collection c) h = refl
no_timeline (Object-F.Item i) h = refl

timeline_reason_once : (bytes v w : List ℕ) → RefusesTimeline bytes v → RefusesTimeline bytes w
    → v ≡ w
timeline_reason_once bytes v w (inl p) (inl q) = object_reason_once bytes v w p q
timeline_reason_once bytes v w (inl p) (inr q) = absurd (object_or_reason bytes v q.0 q.1 p)
timeline_reason_once bytes v w (inr p) (inl q) = absurd (object_or_reason bytes w p.0 p.1 q)
timeline_reason_once bytes v w (inr p) (inr q) = p.3 ∙ sym q.3

timeline_or_reason : (bytes why : List ℕ) (t : Timeline) → IsTimeline bytes t
    → RefusesTimeline bytes why → ⊥
timeline_or_reason bytes why t is (inl p) = object_or_reason bytes why is.object is.is p
timeline_or_reason bytes why t is (inr p) =
    let e : Some (bare t) ≡ None =
    ap timeline_at (sym is.root) ∙ roots_once bytes is.object p.0 is.is p.1
    ∙ no_timeline (out-Object p.0) p.2 in cc

list_reason_once : (rate : Rate) (bytes v w : List ℕ) → RefusesList rate bytes v
    → RefusesList rate bytes w → v ≡ w
list_reason_once rate bytes v w p q =
    p.2 ∙ ap list_fault_text (one_fault rate bytes p.0 q.0 p.1 q.1) ∙ sym q.2

media_reason_once : (bytes v w : List ℕ) → RefusesMedia bytes v → RefusesMedia bytes w → v ≡ w
media_reason_once bytes v w p q =
    p.2 ∙ ap media_fault_text (media_fault_once bytes p.0 q.0 p.1 q.1) ∙ sym q.2

media_or_reason : (bytes why : List ℕ) (rows : List MediaRow) → IsMediaList bytes rows
    → RefusesMedia bytes why → ⊥
media_or_reason bytes why rows is p = media_or_fault bytes rows p.0 is p.1

log_reason_once : (bytes v w : List ℕ) → RefusesLog bytes v → RefusesLog bytes w → v ≡ w
log_reason_once bytes v w p q =
    p.2 ∙ ap ale_fault_text (ale_fault_once bytes p.0 q.0 p.1 q.1) ∙ sym q.2

log_or_reason : (bytes why : List ℕ) (rows : List MediaRow) → IsLog bytes rows
    → RefusesLog bytes why → ⊥
log_or_reason bytes why rows is p = log_or_fault bytes rows p.0 is p.1

script_reason_once : (bytes v w : List ℕ) → RefusesScript bytes v → RefusesScript bytes w → v ≡ w
script_reason_once bytes v w p q =
    p.2 ∙ ap script_fault_text (script_fault_once bytes p.0 q.0 p.1 q.1) ∙ sym q.2

script_or_reason : (bytes why : List ℕ) (commands : List ScriptCommand) → IsScript bytes commands
    → RefusesScript bytes why → ⊥
script_or_reason bytes why commands is p = script_or_fault bytes commands p.0 is p.1

-- bytes are refused for one reason
pub reason_once : (kind : Kind) (bytes v w : List ℕ) → Refuses kind bytes v → Refuses kind bytes w
    → v ≡ w
reason_once kinds.Json bytes v w p q = json_reason_once bytes v w p q
reason_once kinds.Object bytes v w p q = object_reason_once bytes v w p q
reason_once kinds.Timeline bytes v w p q = timeline_reason_once bytes v w p q
reason_once (kinds.List rate) bytes v w p q = list_reason_once rate bytes v w p q
reason_once (kinds.NotedList rate) bytes v w p q = list_reason_once rate bytes v w p q
reason_once kinds.Media bytes v w p q = media_reason_once bytes v w p q
reason_once kinds.Log bytes v w p q = log_reason_once bytes v w p q
reason_once kinds.Script bytes v w p q = script_reason_once bytes v w p q

-- bytes that hold something are not refused
pub held_or_refused : (kind : Kind) (bytes why : List ℕ) (content : Content)
    → Holds kind bytes content → Refuses kind bytes why → ⊥
held_or_refused kinds.Json bytes why (Value value) h r = json_or_reason bytes why value h r
held_or_refused kinds.Json bytes why (Root object) h r = h
held_or_refused kinds.Json bytes why (Film timeline) h r = h
held_or_refused kinds.Json bytes why (Events list) h r = h
held_or_refused kinds.Json bytes why (Noted noted said) h r = h
held_or_refused kinds.Json bytes why (Rows rows) h r = h
held_or_refused kinds.Json bytes why (Commands commands) h r = h
held_or_refused kinds.Object bytes why (Root object) h r = object_or_reason bytes why object h r
held_or_refused kinds.Object bytes why (Value value) h r = h
held_or_refused kinds.Object bytes why (Film timeline) h r = h
held_or_refused kinds.Object bytes why (Events list) h r = h
held_or_refused kinds.Object bytes why (Noted noted said) h r = h
held_or_refused kinds.Object bytes why (Rows rows) h r = h
held_or_refused kinds.Object bytes why (Commands commands) h r = h
held_or_refused kinds.Timeline bytes why (Film timeline) h r =
    timeline_or_reason bytes why timeline h r
held_or_refused kinds.Timeline bytes why (Value value) h r = h
held_or_refused kinds.Timeline bytes why (Root object) h r = h
held_or_refused kinds.Timeline bytes why (Events list) h r = h
held_or_refused kinds.Timeline bytes why (Noted noted said) h r = h
held_or_refused kinds.Timeline bytes why (Rows rows) h r = h
held_or_refused kinds.Timeline bytes why (Commands commands) h r = h
held_or_refused (kinds.List rate) bytes why (Events list) h r =
    list_or_fault rate bytes list r.0 h r.1
held_or_refused (kinds.List rate) bytes why (Value value) h r = h
held_or_refused (kinds.List rate) bytes why (Root object) h r = h
held_or_refused (kinds.List rate) bytes why (Film timeline) h r = h
held_or_refused (kinds.List rate) bytes why (Noted noted said) h r = h
held_or_refused (kinds.List rate) bytes why (Rows rows) h r = h
held_or_refused (kinds.List rate) bytes why (Commands commands) h r = h
held_or_refused (kinds.NotedList rate) bytes why (Noted list said) h r =
    list_or_fault rate bytes list r.0 h.is r.1
held_or_refused (kinds.NotedList rate) bytes why (Value value) h r = h
held_or_refused (kinds.NotedList rate) bytes why (Root object) h r = h
held_or_refused (kinds.NotedList rate) bytes why (Film timeline) h r = h
held_or_refused (kinds.NotedList rate) bytes why (Events list) h r = h
held_or_refused (kinds.NotedList rate) bytes why (Rows rows) h r = h
held_or_refused (kinds.NotedList rate) bytes why (Commands commands) h r = h
held_or_refused kinds.Media bytes why (Rows rows) h r = media_or_reason bytes why rows h r
held_or_refused kinds.Media bytes why (Noted noted said) h r = h
held_or_refused kinds.Media bytes why (Value value) h r = h
held_or_refused kinds.Media bytes why (Root object) h r = h
held_or_refused kinds.Media bytes why (Film timeline) h r = h
held_or_refused kinds.Media bytes why (Events list) h r = h
held_or_refused kinds.Media bytes why (Commands commands) h r = h
held_or_refused kinds.Log bytes why (Rows rows) h r = log_or_reason bytes why rows h r
held_or_refused kinds.Log bytes why (Noted noted said) h r = h
held_or_refused kinds.Log bytes why (Value value) h r = h
held_or_refused kinds.Log bytes why (Root object) h r = h
held_or_refused kinds.Log bytes why (Film timeline) h r = h
held_or_refused kinds.Log bytes why (Events list) h r = h
held_or_refused kinds.Log bytes why (Commands commands) h r = h
held_or_refused kinds.Script bytes why (Commands commands) h r =
    script_or_reason bytes why commands.items h r
held_or_refused kinds.Script bytes why (Value value) h r = h
held_or_refused kinds.Script bytes why (Root object) h r = h
held_or_refused kinds.Script bytes why (Film timeline) h r = h
held_or_refused kinds.Script bytes why (Events list) h r = h
held_or_refused kinds.Script bytes why (Noted noted said) h r = h
held_or_refused kinds.Script bytes why (Rows rows) h r = h

-- A timeline that was read is writable, the transitions of a writable one stand where they may, and
-- what is written of it reads back as that timeline.
use Rattle.std.proofs.Common.{◌≡◌, ℕ, Bool, false, List, [], ◌∷◌, Option, Some, None}
use Rattle.std.proofs.Common.{refl, sym, ap, subst, ◌∙◌}
use Rattle.std.specs.Prelude.{slice_get, option_and_then}
use Rattle.std.specs.List.{list_any}
pub use Rattle.std.proofs.lemmas.Bool.{or_from as none_of}
pub use Rattle.schema_write.proofs.OldLemmas.{timeline_out}
use Rattle.otio_model.specs.declared.compositions.ItemOf.{ItemOf}
use Rattle.otio_model.specs.declared.compositions.StackOf.{StackOf}
use Rattle.otio_model.specs.declared.compositions.TrackOf.{TrackOf}
use Rattle.otio_model.specs.declared.compositions.Listed.{Listed}
use Rattle.otio_model.specs.declared.objects.Object.{Object, out-Object}
use Rattle.otio_model.specs.declared.objects.Object.{Timeline as ObjectOfTimeline}
use Rattle.otio_model.specs.declared.objects.Object.TheOpen.{Object-F}
use Rattle.otio_model.specs.declared.timelines.Timeline.{Timeline}
use Rattle.otio_model.specs.Trees.{items_of, children_of, below, item_at, is_transition}
use Rattle.otio_model.specs.Misplaced.{has_misplaced, side_by_side}
use Rattle.coord.specs.Soundness.{IsCalm}
use Rattle.json_value.specs.declared.Json.{Json}
use Rattle.schema_rows.specs.Stands.{Stands}
use Rattle.schema_write.specs.Objects.{json_of, old_json_of}
use Rattle.object_law.specs.Writable as W
use Rattle.object_law.proofs.Contents.{read_is_writable}
use Rattle.object_law.proofs.PatchedTimelines.{item_in}
use Rattle.object_law.proofs.Writables.{object_given}
use Rattle.object_law.proofs.OldWritten.{object_old}
use Rattle.schema_up.specs.Upgrades.{upgraded}
use Rattle.schema_write.specs.OldForms.{HasOldForm}

pub stack_items : (s : StackOf Listed) → W.IsStack s → W.AreItems (items_of s.children)
stack_items s (W.stack_of _ o effects markers none items) = items

pub track_items : (t : TrackOf Listed) → W.IsTrack t → W.AreItems (items_of t.children)
track_items t (W.track_of _ o effects markers apart items) = items

pub stack_calm : (s : StackOf Listed) → W.IsStack s
    → list_any is_transition (items_of s.children) ≡ false
stack_calm s (W.stack_of _ o effects markers none items) = none

pub track_calm : (t : TrackOf Listed) → W.IsTrack t → side_by_side (items_of t.children) ≡ false
track_calm t (W.track_of _ o effects markers apart items) = apart

own_calm : (x : ItemOf Listed) → W.IsItem x → has_misplaced x ≡ false
own_calm x (W.clip _ c e h) = ap has_misplaced e
own_calm x (W.gap _ g e h) = ap has_misplaced e
own_calm x (W.transition _ t e h) = ap has_misplaced e ∙ none_of _ _ h.1 h.2
own_calm x (W.stack _ s e h) = ap has_misplaced e ∙ stack_calm s h
own_calm x (W.track _ t e h) = ap has_misplaced e ∙ track_calm t h

-- the children of a writable item are writable
pub children_are : (x : ItemOf Listed) (l : Listed) → W.IsItem x → children_of x ≡ Some l
    → W.AreItems (items_of l)
children_are x l (W.clip _ c e h) f =
    absurd (let g : None ≡ Some l = sym (ap children_of e) ∙ f in cc)
children_are x l (W.gap _ g e h) f =
    absurd (let k : None ≡ Some l = sym (ap children_of e) ∙ f in cc)
children_are x l (W.transition _ t e h) f =
    absurd (let g : None ≡ Some l = sym (ap children_of e) ∙ f in cc)
children_are x l (W.stack _ s e h) f =
    let g : Some s.children ≡ Some l = sym (ap children_of e) ∙ f in
    let same : s.children ≡ l = cc in
    subst (λ k. W.AreItems (items_of k)) same (stack_items s h)
children_are x l (W.track _ t e h) f =
    let g : Some t.children ≡ Some l = sym (ap children_of e) ∙ f in
    let same : t.children ≡ l = cc in
    subst (λ k. W.AreItems (items_of k)) same (track_items t h)

-- no item that the place leads to breaks a rule
abbrev IsCalmBelow : List ℕ → Type 0
IsCalmBelow place = (x y : ItemOf Listed) → W.IsItem x → below place x ≡ Some y
    → has_misplaced y ≡ false

at_index : (place : List ℕ) (items : List (ItemOf Listed)) (i : ℕ) (y : ItemOf Listed)
    (o : Option (ItemOf Listed)) → slice_get items i ≡ o → W.AreItems items → IsCalmBelow place
    → option_and_then (below place) o ≡ Some y → has_misplaced y ≡ false
at_index place items i y None e h by f = absurd (cc f)
at_index place items i y (Some x) e h by f = by x y (item_in items i x h e) f

in_children : (place : List ℕ) (i : ℕ) (x y : ItemOf Listed) (o : Option Listed)
    → children_of x ≡ o → W.IsItem x → IsCalmBelow place
    → option_and_then (λ l. option_and_then (below place) (slice_get (items_of l) i)) o ≡ Some y
    → has_misplaced y ≡ false
in_children place i x y None e h by f = absurd (cc f)
in_children place i x y (Some l) e h by f =
    at_index place (items_of l) i y (slice_get (items_of l) i) refl (children_are x l h e) by f

below_calm : (place : List ℕ) → IsCalmBelow place
below_calm [] = λ x y h e. let same : x ≡ y = cc in
    subst (λ z. has_misplaced z ≡ false) same (own_calm x h)
below_calm (i ∷ place) = λ x y h e.
    in_children place i x y (children_of x) refl h (below_calm place) e

items_calm : (l : Listed) → W.AreItems (items_of l) → (place : List ℕ) (y : ItemOf Listed)
    → item_at place l ≡ Some y → has_misplaced y ≡ false
items_calm l h [] y e = absurd (cc e)
items_calm l h (i ∷ place) y e =
    at_index place (items_of l) i y (slice_get (items_of l) i) refl h (below_calm place) e

pub timeline_calm : (t : Timeline) → W.IsTimeline t → IsCalm t
timeline_calm t h = record {
  root = stack_calm t.tracks h.1;
  items = items_calm t.tracks.children (stack_items t.tracks h.1);
}

-- ---- what was read

pub root_writable : (t : Timeline) (object : Object) → out-Object object ≡ Object-F.Timeline t
    → W.IsObject object → W.IsTimeline t
root_writable t object e (W.timeline _ u f h) =
    let both : Object-F.Timeline u ≡ Object-F.Timeline t = sym f ∙ e in
    let same : u ≡ t = cc in
    subst W.IsTimeline same h
root_writable t object e (W.collection _ c f others all) =
    absurd (let both : Object-F.Collection c ≡ Object-F.Timeline t = sym f ∙ e in cc)
root_writable t object e (W.item _ i f h) =
    absurd (let both : Object-F.Item i ≡ Object-F.Timeline t = sym f ∙ e in cc)

pub stands_writable : (t : Timeline) (value : Json) (object : Object) → W.IsUpgraded value
    → Stands value object → out-Object object ≡ Object-F.Timeline t → W.IsTimeline t
stands_writable t value object u s e = root_writable t object e (read_is_writable value object u s)

pub stands_calm : (t : Timeline) (value : Json) (object : Object) → W.IsUpgraded value
    → Stands value object → out-Object object ≡ Object-F.Timeline t → IsCalm t
stands_calm t value object u s e = timeline_calm t (stands_writable t value object u s e)

-- ---- what is written

-- what is written of a writable timeline in the older family, where it has a form there, reads back
-- as that timeline once it is upgraded
pub stands_old : (t : Timeline) → W.IsTimeline t → HasOldForm (ObjectOfTimeline t)
    → Stands (upgraded (old_json_of (ObjectOfTimeline t))) (ObjectOfTimeline t)
stands_old t h free = object_old (ObjectOfTimeline t)
    (W.timeline (ObjectOfTimeline t) t (timeline_out t) h) free

-- what is written of a writable timeline reads back as that timeline
pub stands_again : (t : Timeline) → W.IsTimeline t
    → Stands (json_of (ObjectOfTimeline t)) (ObjectOfTimeline t)
stands_again t h =
    object_given (ObjectOfTimeline t) (W.timeline (ObjectOfTimeline t) t (timeline_out t) h)

-- A writable timeline is writable after an accepted edit.
use Rattle.std.proofs.Common.{◌≡◌, refl, sym, ap, subst, ◌∙◌, false, ℕ, ◌+◌, ◌≤◌}
use Rattle.std.proofs.Common.{List, [], ◌∷◌, ◌++◌, Option, Some, None, append-nil, ◌*ℤ◌}
use Rattle.std.proofs.Common.{drop, length, arith}
use Rattle.std.specs.Prelude.{IsSomeAnd, option_and_then, slice_get}
use Rattle.otio_model.specs.declared.compositions.ItemOf.{ItemOf}
use Rattle.otio_model.specs.declared.compositions.ItemOf.TheVariants.{Track}
use Rattle.otio_model.specs.declared.compositions.Listed.{Listed}
use Rattle.otio_model.specs.declared.edit_types.Edit.{Edit}
use Rattle.otio_model.specs.declared.patches.Patch.{Patch}
use Rattle.otio_model.specs.declared.patches.Put.TheVariants.{Items}
use Rattle.otio_model.specs.declared.timelines.Timeline.{Timeline}
use Rattle.otio_model.specs.Edits.{IsTrack, list_at, replaced}
use Rattle.otio_model.specs.Misplaced.{side_by_side}
use Rattle.otio_model.specs.Patches.{IsFit, applied, with_list}
use Rattle.otio_model.specs.Trees.{children_of, item_at, items_of}
use Rattle.coord.specs.Soundness.{IsSound}
use Rattle.edits.specs.Cuts.{olds}
use Rattle.edits.specs.After.{at_of, frame_of, list_of, place_of, rate_of, with_items}
use Rattle.edits.specs.Edges.{held_at}
use Rattle.edits.specs.Edits.{edited}
use Rattle.edits.specs.Refusals.{IsAfter}
use Rattle.edits.specs.Refusals.{place_fault}
use Rattle.edits_law.proofs.Accepted.{later, passed}
use Rattle.edits_law.specs.Editable.{HasEditItem}
use Rattle.edits_law.proofs.AnyDepth.{made}
use Rattle.edits_law.proofs.Depth.{leads}
use Rattle.edits_law.proofs.Premises.{premises}
use Rattle.edits_law.proofs.Apart.{Apart, apart_items, items_apart}
use Rattle.edits_law.proofs.ApartEdits.{edited_apart}
use Rattle.edits_law.proofs.MadeParts.{made_apart}
use Rattle.edits_law.proofs.Places.{children_at}
use Rattle.object_law.specs.Writable.{AreItems, IsItem, IsTimeline}
use Rattle.object_law.proofs.PatchedTimelines.{item_in, patched_is_writable}
use Rattle.writable_law.proofs.CalmTimelines.{children_are, stack_items}
use Rattle.writable_law.proofs.MadeChildren.{made_are}
use Rattle.script_law.specs.Items.{HasWritableItem}
use Rattle.writable_law.proofs.WritableChildren.{AreWritable, all_items}
use Rattle.writable_law.proofs.WritableChildren.{each_item}
use Rattle.script_law.proofs.WritableEdits.{edited_are}

-- ---- the old list

-- whatever list a place leads to has writable items
abbrev LeadsToItems : List ℕ → Type 0
LeadsToItems place = (l found : Listed) → AreItems (items_of l) → list_at place l ≡ Some found
    → AreItems (items_of found)

in_children : (place : List ℕ) (x : ItemOf Listed) (found : Listed) (o : Option Listed)
    → children_of x ≡ o → IsItem x → LeadsToItems place
    → option_and_then (list_at place) o ≡ Some found → AreItems (items_of found)
in_children place x found None e h by f = absurd (cc f)
in_children place x found (Some l) e h by f = by l found (children_are x l h e) f

at_index : (place : List ℕ) (items : List (ItemOf Listed)) (i : ℕ) (found : Listed)
    (o : Option (ItemOf Listed)) → slice_get items i ≡ o → AreItems items → LeadsToItems place
    → option_and_then (λ x. option_and_then (list_at place) (children_of x)) o ≡ Some found
    → AreItems (items_of found)
at_index place items i found None e h by f = absurd (cc f)
at_index place items i found (Some x) e h by f =
    in_children place x found (children_of x) refl (item_in items i x h e) by f

list_in : (place : List ℕ) → LeadsToItems place
list_in [] = λ l found h e. let same : l ≡ found = cc e in
    subst (λ (k : Listed). AreItems (items_of k)) same h
list_in (i ∷ place) = λ l found h e.
    at_index place (items_of l) i found (slice_get (items_of l) i) refl h (list_in place) e

-- ---- the new list

past : {A : Type 0} (l : List A) → drop (length l) l ≡ []
past [] = refl
past (x ∷ l) = past l

-- all children are replaced
all_replaced : {A : Type 0} (m l : List A) → m ≡ replaced 0 (length l) m l
all_replaced m l =
    let z : 0 + length l ≡ length l = omega arith in
    sym (append-nil m) ∙ ap (λ k. m ++ k) (sym (ap (λ n. drop n l) z ∙ past l))

-- ---- the new timeline

pub stays_writable : (t : Timeline) (e : Edit) (new : Timeline) → IsSound t → IsTimeline t
    → HasEditItem e → HasWritableItem e → IsAfter t e new → IsTimeline new
stays_writable t e new s h i v a =
    let p = leads t e a.early in
    let d = made t e new a.made in
    let there : item_at (place_of e) t.tracks.children ≡ Some (Track p.track) =
    ap (λ q. item_at q t.tracks.children) p.place ∙ p.there in
    let l = p.track.children in
    let found : list_at (place_of e) t.tracks.children ≡ Some l =
    children_at (place_of e) t.tracks.children l (Track p.track) there refl in
    let same : list_of t e ≡ items_of l =
    ap (λ (o : Option Listed). elim o [ None ↦ [] | Some k ↦ items_of k ]) found in
    let old : AreWritable (list_of t e) = subst AreWritable (sym same)
    (each_item (items_of l) (list_in (place_of e) t.tracks.children l
    (stack_items t.tracks h.1) found)) in
    let w = (passed t e (frame_of t) (list_of t e)
    (held_at (list_of t e) (at_of e *ℤ frame_of t))
    (later (place_fault (place_of e) t) _ a.early)).speed in
    let items = made_are (rate_of t) (edited (frame_of t) e (list_of t e)) d.items d.are
    (edited_are (frame_of t) e (list_of t e) old v w) in
    let calm : Apart false (olds (list_of t e)) = apart_items (list_of t e)
    (ap side_by_side same ∙ s.calm.items (place_of e) (Track p.track) there) in
    let apart = items_apart false d.items
    (made_apart false (rate_of t) (edited (frame_of t) e (list_of t e)) d.items d.are
    (edited_apart (frame_of t) e (list_of t e) calm (premises t e s i).suits)) in
    let q : Patch = record
    { place = place_of e; at = 0; put = Items (length (items_of l)) d.items } in
    let fit : IsFit q t = record {
      track = subst (λ o. IsSomeAnd o IsTrack) (sym there) tt;
      within = subst (λ o. IsSomeAnd o (λ k. 0 + length (items_of l) ≤ length (items_of k)))
          (sym found) (omega arith);
    } in
    let all = all_replaced d.items (items_of l) in
    let gives : applied q t ≡ new =
    ap (λ (o : Option Listed). elim o [ None ↦ t | Some k ↦ with_list q k t ]) found
    ∙ ap (with_items t e) (sym all) ∙ d.give in
    subst IsTimeline gives
    (patched_is_writable q t l fit found h (all_items d.items items)
    (ap side_by_side (sym all) ∙ apart))

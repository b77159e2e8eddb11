-- Lists of writable items of which none is a transition, as the root children of a timeline.
use Rattle.std.proofs.Common.{◌≡◌, ℕ, Bool, true, false, List, [], ◌∷◌, ◌++◌, Some}
use Rattle.std.proofs.Common.{refl, sym, ap, subst, ◌∙◌, ℤ, pos, zero, suc}
use Rattle.std.specs.Prelude.{filter, slice_get}
use Rattle.std.specs.List.{list_any}
use Rattle.tick_time.specs.declared.rates.Rate.{Rate}
use Rattle.otio_model.specs.declared.compositions.ItemOf.{ItemOf}
use Rattle.otio_model.specs.declared.compositions.Listed.{Listed}
use Rattle.otio_model.specs.declared.compositions.StackOf.{StackOf}
use Rattle.otio_model.specs.declared.timelines.Timeline.{Timeline}
use Rattle.otio_model.specs.Timelines.{bare}
use Rattle.otio_model.specs.Trees.{is_transition, listed}
use Rattle.otio_model.specs.Misplaced.{side_by_side}
use Rattle.otio_model.proofs.Views.{items-listed}
use Rattle.coord.specs.Soundness.{IsFaultless, IsSound}
use Rattle.edits.specs.Children.{Ranged, made, new_gap, plain_gap, with_first}
use Rattle.edits_law.proofs.Splice.{cases}
use Rattle.std.proofs.lemmas.Bool.{or_parts}
use Rattle.edits_law.proofs.MadeParts.{made_apart}
use Rattle.flat.specs.Roots.{items_in, roots, with_roots}
use Rattle.coord.proofs.Members.{same_some}
use Rattle.object_law.specs.Writable as W
use Rattle.object_law.specs.Writable.{AreItems, IsItem, IsTimeline}
use Rattle.writable_law.proofs.CalmTimelines.{stack_items, track_items}
use Rattle.writable_law.proofs.WritableChildren.{AreWritable, each_item, ranged_writable}
use Rattle.writable_law.proofs.CalmTimelines.{none_of, stack_calm, timeline_calm, track_calm}

-- a writable item that is no transition
pub record IsThing (x : ItemOf Listed) : Type 0 where
  pub writable : IsItem x
  pub thing : is_transition x ≡ false

abbrev pub AreThings : List (ItemOf Listed) → Type 0
AreThings [] = Unit {0}
AreThings (x ∷ l) = IsThing x × AreThings l

-- ---- lists

pub things_items : (l : List (ItemOf Listed)) → AreThings l → AreItems l
things_items [] h = W.no_items [] refl
things_items (x ∷ l) h = let one = h.0 in
    W.more_items (x ∷ l) x l refl one.writable (things_items l h.1)

pub things_none : (l : List (ItemOf Listed)) → AreThings l → list_any is_transition l ≡ false
things_none [] h = refl
things_none (x ∷ l) h = let one = h.0 in none_of _ _ one.thing (things_none l h.1)

pub things_apart : (l : List (ItemOf Listed)) → AreThings l → side_by_side l ≡ false
things_apart [] h = refl
things_apart (x ∷ []) h = refl
things_apart (x ∷ y ∷ l) h =
    let one = h.0 in let e = one.thing in rw e (things_apart (y ∷ l) h.1)

pub things_join : (l m : List (ItemOf Listed)) → AreThings l → AreThings m → AreThings (l ++ m)
things_join [] m h k = k
things_join (x ∷ l) m h k = (h.0, things_join l m h.1 k)

pub things_filter : (keeps : ItemOf Listed → Bool) (l : List (ItemOf Listed)) → AreThings l
    → AreThings (filter keeps l)
things_filter keeps [] h = tt
things_filter keeps (x ∷ l) h = cases (keeps x) (λ e. rw e (h.0, things_filter keeps l h.1))
    (λ e. rw e (things_filter keeps l h.1))

-- ---- items by places

pub thing_at : (l : List (ItemOf Listed)) (i : ℕ) (x : ItemOf Listed) → AreThings l
    → slice_get l i ≡ Some x → IsThing x
thing_at [] i x h e = absurd (cc e)
thing_at (y ∷ l) zero x h e = subst IsThing (same_some y x e) h.0
thing_at (y ∷ l) (suc i) x h e = thing_at l i x h.1 e

things_of : (l : List (ItemOf Listed)) → AreWritable l → list_any is_transition l ≡ false
    → AreThings l
things_of [] h e = tt
things_of (x ∷ l) h e =
    let n = or_parts (is_transition x) (list_any is_transition l) e in
    (record { writable = h.0; thing = n.0 }, things_of l h.1 n.1)

-- ---- children of an item

pub inside_items : (x : ItemOf Listed) → IsItem x → AreItems (items_in x)
inside_items x (W.clip _ c e h) = subst (λ y. AreItems (items_in y)) (sym e) (W.no_items [] refl)
inside_items x (W.gap _ g e h) = subst (λ y. AreItems (items_in y)) (sym e) (W.no_items [] refl)
inside_items x (W.transition _ t e h) =
    subst (λ y. AreItems (items_in y)) (sym e) (W.no_items [] refl)
inside_items x (W.stack _ s e h) =
    subst (λ y. AreItems (items_in y)) (sym e) (W.no_items [] refl)
inside_items x (W.track _ t e h) =
    subst (λ y. AreItems (items_in y)) (sym e) (track_items t h)

pub inside_apart : (x : ItemOf Listed) → IsItem x → side_by_side (items_in x) ≡ false
inside_apart x (W.clip _ c e h) = ap (λ y. side_by_side (items_in y)) e
inside_apart x (W.gap _ g e h) = ap (λ y. side_by_side (items_in y)) e
inside_apart x (W.transition _ t e h) = ap (λ y. side_by_side (items_in y)) e
inside_apart x (W.stack _ s e h) = ap (λ y. side_by_side (items_in y)) e
inside_apart x (W.track _ t e h) = ap (λ y. side_by_side (items_in y)) e ∙ track_calm t h

-- ---- another range

pub ranged_thing : (r : Rate) (x : ItemOf Listed) (s n : ℤ) (y : ItemOf Listed) → IsThing x
    → made r (Ranged x s n) ≡ Some y → IsThing y
ranged_thing r x s n y h e = record {
  writable = ranged_writable x s n h.writable r y e;
  thing = (made_apart true r (Ranged x s n ∷ []) (y ∷ []) (ap (λ o. with_first o (Some [])) e)
      (λ f. h.thing, tt)).0 refl;
}

pub gap_thing : (r : Rate) (n : ℤ) (y : ItemOf Listed) → made r (new_gap n) ≡ Some y → IsThing y
gap_thing r n y e = ranged_thing r plain_gap (pos 0) n y
    (record { writable = W.gap plain_gap _ refl (refl, tt, tt); thing = refl }) e

-- ---- a timeline's root children

pub roots_are : (t : Timeline) → IsTimeline t → AreThings (roots t)
roots_are t h =
    things_of (roots t) (each_item (roots t) (stack_items t.tracks h.1)) (stack_calm t.tracks h.1)

stack_with : (s : StackOf Listed) (l : List (ItemOf Listed)) → W.IsStack s → AreThings l
    → W.IsStack (record s { children = listed l })
stack_with s l (W.stack_of _ o effects markers none items) h =
    W.stack_of (record s { children = listed l }) o effects markers
    (ap (list_any is_transition) (items-listed l) ∙ things_none l h)
    (subst AreItems (sym (items-listed l)) (things_items l h))

pub with_roots_is : (l : List (ItemOf Listed)) (t : Timeline) → IsTimeline t → AreThings l
    → IsTimeline (with_roots l t)
with_roots_is l t h k = (h.0, stack_with t.tracks l h.1 k)

-- writable whatever memory it keeps to spare
pub same_bare : (a b : Timeline) → bare b ≡ bare a → IsTimeline a → IsTimeline b
same_bare a b e h = subst IsTimeline (sym e) h

pub sound_with : (t : Timeline) → IsFaultless t → IsTimeline t → IsSound t
sound_with t s h = record { faultless = s; calm = timeline_calm t h }

-- The timeline after an accepted edit of a sound one is sound.
use Rattle.std.proofs.Common.{◌≡◌, refl, sym, ap, subst, ◌∙◌, false, ℕ, zero, suc, List}
use Rattle.std.proofs.Common.{[], ◌∷◌, ◌++◌, Option, Some, None, append-nil, inr}
use Rattle.std.proofs.Common.{◌*ℤ◌}
use Rattle.std.specs.Prelude.{option_and_then, slice_get}
use Rattle.std.specs.List.{list_any}
use Rattle.otio_model.specs.declared.compositions.TrackOf.{TrackOf}
use Rattle.otio_model.specs.declared.compositions.ItemOf.{ItemOf}
use Rattle.otio_model.specs.declared.compositions.ItemOf.TheVariants.{Track}
use Rattle.otio_model.specs.declared.compositions.Listed.{Listed}
use Rattle.otio_model.specs.declared.timelines.Timeline.{Timeline}
use Rattle.otio_model.specs.declared.edit_types.Edit.{Edit}
use Rattle.otio_model.specs.Edits.{deeper, list_at, with_at}
use Rattle.otio_model.specs.Misplaced.{has_misplaced, side_by_side}
use Rattle.otio_model.specs.Trees.{below, is_transition, item_at, items_of, listed}
use Rattle.otio_model.proofs.Views.{items-listed}
use Rattle.coord.specs.declared.faults.ItemFault.{ItemFault}
use Rattle.coord.specs.declared.faults.ItemFault.TheVariants.{Long}
use Rattle.coord.specs.Soundness.{IsSound, fault_of}
use Rattle.edits.specs.Children.{Child, all_made}
use Rattle.edits.specs.Cuts.{olds}
use Rattle.edits.specs.After.{at_of, frame_of, list_of, place_of, rate_of}
use Rattle.edits.specs.Edges.{held_at}
use Rattle.edits.specs.Edits.{edited}
use Rattle.edits.specs.Everywhere.{Everywhere, OnTheWay}
use Rattle.edits.specs.Refusals.{HasLong, IsAfter, early_fault}
use Rattle.edits.specs.Refusals.{place_fault}
use Rattle.edits_law.proofs.Accepted.{later, passed}
use Rattle.edits_law.proofs.Anywhere.{everywhere}
use Rattle.edits_law.specs.Editable.{HasEditItem}
use Rattle.edits_law.proofs.AnyDepth.{made}
use Rattle.edits_law.proofs.Depth.{leads}
use Rattle.edits_law.proofs.Premises.{premises}
use Rattle.edits_law.proofs.Unreached.{items_with}
use Rattle.edits_law.proofs.Apart.{Apart, apart_items, items_apart}
use Rattle.edits_law.proofs.ApartEdits.{edited_apart}
use Rattle.edits_law.proofs.Clean.{AreClean, AreCleanChildren, IsClean, IsCleanAll, clean_length, no_fault}
use Rattle.edits_law.proofs.CleanEdits.{edited_clean}
use Rattle.edits_law.proofs.MadeParts.{made_apart, made_none, made_parts, same_item}
use Rattle.edits_law.proofs.OnWay.{AreMeasured, any_changed, deeper_clean, on_way, way_calm}
use Rattle.edits_law.proofs.OnWay.{way_length}
use Rattle.edits_law.proofs.Places.{below_at, children_at}

-- ---- the old timeline

clean_items : (t : Timeline) → IsSound t → Everywhere IsClean t.tracks.children
clean_items t s place x e = record {
  long = λ fault f. absurd (no_fault fault (sym (s.faultless.items place x e) ∙ f));
  calm = s.calm.items place x e;
}

clean_list : (l : List (ItemOf Listed))
    → ((i : ℕ) (x : ItemOf Listed) → slice_get l i ≡ Some x → IsCleanAll x) → AreClean l
clean_list [] k = tt
clean_list (x ∷ l) k = (k zero x refl, clean_list l (λ i y e. k (suc i) y e))

-- what stands below the children at a place
all_below : (P : ItemOf Listed → Type 0) (place : List ℕ) (l d : Listed) → Everywhere P l
    → list_at place l ≡ Some d → Everywhere P d
all_below P place l d k e [] y f = absurd (cc f)
all_below P place l d k e (j ∷ q) y f = k (place ++ (j ∷ q)) y (below_at place l d j q y e f)

clean_children : (t : Timeline) (e : Edit) → IsSound t → AreClean (list_of t e)
clean_children t e s = of (list_at (place_of e) t.tracks.children) refl
  where
    of : (o : Option Listed) → list_at (place_of e) t.tracks.children ≡ o
        → AreClean (elim o [ None ↦ [] | Some l ↦ items_of l ])
    of None f = tt
    of (Some d) f = clean_list (items_of d)
        (λ i x g q y h. all_below IsClean (place_of e) t.tracks.children d (clean_items t s) f
        (i ∷ q) y (ap (option_and_then (below q)) g ∙ h))

-- the edited list is that of the track
track_list : (t : Timeline) (e : Edit) (c : TrackOf Listed)
    → item_at (place_of e) t.tracks.children ≡ Some (Track c) → list_of t e ≡ items_of c.children
track_list t e c f =
    ap (λ (o : Option Listed). elim o [ None ↦ [] | Some l ↦ items_of l ])
    (children_at (place_of e) t.tracks.children c.children (Track c) f refl)

-- ---- the new list

made_clean : (t : Timeline) (l : List Child) (m : List (ItemOf Listed))
    → all_made (rate_of t) l ≡ Some m → AreCleanChildren l → AreClean m
made_clean t [] m e k = subst AreClean (made_none (rate_of t) m e) tt
made_clean t (c ∷ l) m e k =
    let d = made_parts (rate_of t) c l m e in
    subst AreClean d.all
    (k.0 (rate_of t) d.first d.first_is, made_clean t l d.others d.others_are k.1)

new_clean : (t : Timeline) (e : Edit) (m : List (ItemOf Listed)) → IsSound t → HasEditItem e
    → early_fault t e ≡ None → all_made (rate_of t) (edited (frame_of t) e (list_of t e)) ≡ Some m
    → AreClean m
new_clean t e m s i f k =
    let w = (passed t e (frame_of t) (list_of t e)
    (held_at (list_of t e) (at_of e *ℤ frame_of t))
    (later (place_fault (place_of e) t) _ f)).speed in
    made_clean t (edited (frame_of t) e (list_of t e)) m k
    (edited_clean (frame_of t) e (list_of t e) (clean_children t e s) i w)

clean_at : (m : List (ItemOf Listed)) (i : ℕ) (x : ItemOf Listed) → AreClean m
    → slice_get m i ≡ Some x → IsCleanAll x
clean_at [] i x k e = absurd (none i e)
  where
    none : (j : ℕ) → Path (Option (ItemOf Listed)) (slice_get [] j) (Some x) → ⊥
    none zero g = cc g
    none (suc j) g = cc g
clean_at (y ∷ m) zero x k e = subst IsCleanAll (same_item y x e) k.0
clean_at (y ∷ m) (suc i) x k e = clean_at m i x k.1 e

pub made_short : (t : Timeline) (e : Edit) (m : List (ItemOf Listed)) (i : ℕ) (x : ItemOf Listed)
    (fault : ItemFault) → IsSound t → HasEditItem e → early_fault t e ≡ None
    → all_made (rate_of t) (edited (frame_of t) e (list_of t e)) ≡ Some m
    → slice_get m i ≡ Some x → fault_of x ≡ Some fault → fault ≡ Long
made_short t e m i x fault s h f k g =
    (clean_at m i x (new_clean t e m s h f k) g [] x refl).long fault

listed_clean : (m : List (ItemOf Listed)) → AreClean m → Everywhere IsClean (listed m)
listed_clean m k [] x e = absurd (cc e)
listed_clean m k (i ∷ q) x e =
    of (slice_get m i) refl (sym (ap (λ l. option_and_then (below q) (slice_get l i))
    (items-listed m)) ∙ e)
  where
    of : (o : Option (ItemOf Listed)) → slice_get m i ≡ o → option_and_then (below q) o ≡ Some x
        → IsClean x
    of None f g = absurd (cc g)
    of (Some y) f g = clean_at m i y k f q x g

clean_lengths : (m : List (ItemOf Listed)) → AreClean m → AreMeasured m
clean_lengths [] k = tt
clean_lengths (x ∷ m) k = (clean_length x (k.0 [] x refl), clean_lengths m k.1)

-- ---- the new timeline

-- the track at a place, where its new children are side by side as they may
track_calm : (m : List (ItemOf Listed)) (x : ItemOf Listed) (c : TrackOf Listed) → Track c ≡ x
    → side_by_side m ≡ false → has_misplaced (deeper (with_at [] (listed m)) x) ≡ false
track_calm m x c e k =
    subst (λ (z : ItemOf Listed). has_misplaced (deeper (with_at [] (listed m)) z) ≡ false) e
    (ap side_by_side (items-listed m) ∙ k)

calm_at : (m : List (ItemOf Listed)) (l : Listed) (c : TrackOf Listed) (place front back : List ℕ)
    (x : ItemOf Listed) → item_at place l ≡ Some (Track c) → item_at front l ≡ Some x
    → place ≡ front ++ back → side_by_side m ≡ false → has_misplaced x ≡ false
    → has_misplaced (deeper (with_at back (listed m)) x) ≡ false
calm_at m l c place front [] x p h f a k =
    let same : place ≡ front = f ∙ append-nil front in
    track_calm m x c (same_item (Track c) x (sym p ∙ ap (λ q. item_at q l) same ∙ h)) a
calm_at m l c place front (i ∷ back) x p h f a k = way_calm i back (listed m) x k

way_clean : (m : List (ItemOf Listed)) (l : Listed) (c : TrackOf Listed) (place : List ℕ)
    → Everywhere IsClean l → AreClean m → side_by_side m ≡ false
    → item_at place l ≡ Some (Track c) → OnTheWay IsClean place (with_at place (listed m) l)
way_clean m l c place k n a p front back x o e =
    let w = on_way front back (listed m) l x
    (subst (λ q. item_at front (with_at q (listed m) l) ≡ Some x) o e) in
    let own = k front w.old w.there in
    subst IsClean w.now (deeper_clean (with_at back (listed m)) w.old own
    (way_length back (listed m) w.old (subst AreMeasured (sym (items-listed m)) (clean_lengths m n))
    (clean_length w.old own) (λ d f q y h. clean_length y
    (all_below IsClean front l d k (children_at front l d w.old w.there f) q y h)))
    (calm_at m l c place front back w.old p w.there o a own.calm))

-- an item that isn't too long has no fault
no_faults : (x : ItemOf Listed) → IsClean x → (fault_of x ≡ Some Long → ⊥) → fault_of x ≡ None
no_faults x k n = of (fault_of x) refl
  where
    of : (o : Option ItemFault) → fault_of x ≡ o → fault_of x ≡ None
    of None e = e
    of (Some fault) e = absurd (n (e ∙ ap Some (k.long fault e)))

pub stays_sound : (t : Timeline) (e : Edit) (new : Timeline) → IsSound t → HasEditItem e
    → IsAfter t e new → IsSound new
stays_sound t e new s i a =
    let p = leads t e a.early in
    let d = made t e new a.made in
    let n = new_clean t e d.items s i a.early d.are in
    let there : item_at (place_of e) t.tracks.children ≡ Some (Track p.track) =
    ap (λ q. item_at q t.tracks.children) p.place ∙ p.there in
    let old : Apart false (olds (list_of t e)) = apart_items (list_of t e)
    (ap side_by_side (track_list t e p.track there)
    ∙ s.calm.items (place_of e) (Track p.track) there) in
    let apart = made_apart false (rate_of t) (edited (frame_of t) e (list_of t e)) d.items d.are
    (edited_apart (frame_of t) e (list_of t e) old (premises t e s i).suits) in
    let all = everywhere IsClean (place_of e) (listed d.items) t.tracks.children (clean_items t s)
    (listed_clean d.items n)
    (way_clean d.items t.tracks.children p.track (place_of e) (clean_items t s) n
    (items_apart false d.items apart) there) in
    subst IsSound d.give (record {
      faultless = record {
        start = s.faultless.start;
        items = λ place x h. no_faults x (all place x h)
            (λ f. a.short (inr (new, a.made, subst HasLong d.give (place, x, h, f))));
      };
      calm = record {
        root = ap (λ q. list_any is_transition (items_of
            (with_at q (listed d.items) t.tracks.children)))
            p.place
            ∙ ap (list_any is_transition) (items_with p.first p.rest (listed d.items)
            t.tracks.children)
            ∙ any_changed (with_at p.rest (listed d.items)) p.first (items_of t.tracks.children)
            ∙ s.calm.root;
        items = λ place x h. (all place x h).calm;
      };
    })

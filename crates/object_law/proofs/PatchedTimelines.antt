-- A writable timeline is writable after a patch of writable items that leaves no two transitions side by side.
use Rattle.std.proofs.Common.{◌≡◌, ℕ, zero, suc, ◌+◌, Bool, false, ◌&&◌, ◌||◌, List, [], ◌∷◌, ◌++◌, map, take, drop, Option, Some, None, slice_get, refl, sym, ap, subst, ◌∙◌}
use Rattle.std.specs.Prelude.{IsSomeAnd, option_and_then}
use Rattle.std.specs.List.{list_any}
use Rattle.otio_model.specs.declared.compositions.Listed.{Listed}
use Rattle.otio_model.specs.declared.compositions.ItemOf.{ItemOf}
use Rattle.otio_model.specs.declared.compositions.ItemOf.TheVariants as I
use Rattle.otio_model.specs.declared.compositions.StackOf.{StackOf}
use Rattle.otio_model.specs.declared.compositions.TrackOf.{TrackOf}
use Rattle.otio_model.specs.declared.patches.Patch.{Patch}
use Rattle.otio_model.specs.declared.patches.Put.{Put}
use Rattle.otio_model.specs.declared.patches.Put.TheVariants.{Items, Ranges}
use Rattle.otio_model.specs.Retimed.{retimed, with_source, with_sources}
use Rattle.tick_time.specs.declared.spans.Span.{Span}
use Rattle.object_law.specs.Law.{ArePut}
use Rattle.otio_model.specs.declared.timelines.Timeline.{Timeline}
use Rattle.otio_model.specs.Edits.{deeper, changed, list_at, with_at, IsTrack, LeadsToTrack}
use Rattle.otio_model.specs.Patches.{target, IsFit, with_list, applied, put_at}
use Rattle.otio_model.specs.Trees.{listed, items_of, children_of, below, is_transition}
use Rattle.otio_model.proofs.Views.{items-listed}
use Rattle.otio_model.specs.Misplaced.{side_by_side}
use Rattle.object_law.specs.Writable as Q
use Rattle.object_law.specs.Writable.{IsClip, IsGap, IsTransition, IsItem, IsStack, AreItems, IsTimeline}

-- an item and a list by what they are
abbrev IsSuch : ItemOf Listed → Type 0
IsSuch (I.Clip c) = IsClip c
IsSuch (I.Gap g) = IsGap g
IsSuch (I.Transition t) = IsTransition t
IsSuch (I.Stack s) = IsStack s
IsSuch (I.Track t) = Q.IsTrack t

such : (item : ItemOf Listed) → IsItem item → IsSuch item
such item (Q.clip _ c e h) = subst IsSuch (sym e) h
such item (Q.gap _ g e h) = subst IsSuch (sym e) h
such item (Q.transition _ t e h) = subst IsSuch (sym e) h
such item (Q.stack _ s e h) = subst IsSuch (sym e) h
such item (Q.track _ t e h) = subst IsSuch (sym e) h

abbrev AreSuch : List (ItemOf Listed) → Type 0
AreSuch [] = Unit {0}
AreSuch (item ∷ items) = IsItem item × AreItems items

all_such : (items : List (ItemOf Listed)) → AreItems items → AreSuch items
all_such items (Q.no_items _ e) = subst AreSuch (sym e) tt
all_such items (Q.more_items _ item behind e h hs) = subst AreSuch (sym e) (h, hs)

stack_items : (s : StackOf Listed) → IsStack s → AreItems (items_of s.children)
stack_items s (Q.stack_of _ o effects markers none items) = items

track_items : (t : TrackOf Listed) → Q.IsTrack t → AreItems (items_of t.children)
track_items t (Q.track_of _ o effects markers none items) = items

-- parts of lists
pub front_items : (n : ℕ) (items : List (ItemOf Listed)) → AreItems items → AreItems (take n items)
front_items zero [] h = h
front_items (suc n) [] h = h
front_items zero (x ∷ items) h = Q.no_items [] refl
front_items (suc n) (x ∷ items) h = let s = all_such (x ∷ items) h in Q.more_items (x ∷ take n items) x (take n items) refl s.0 (front_items n items s.1)

pub back_items : (n : ℕ) (items : List (ItemOf Listed)) → AreItems items → AreItems (drop n items)
back_items zero [] h = h
back_items (suc n) [] h = h
back_items zero (x ∷ items) h = h
back_items (suc n) (x ∷ items) h = back_items n items (all_such (x ∷ items) h).1

pub joined_items : (front back : List (ItemOf Listed)) → AreItems front → AreItems back → AreItems (front ++ back)
joined_items [] back h k = k
joined_items (x ∷ front) back h k = let s = all_such (x ∷ front) h in Q.more_items (x ∷ (front ++ back)) x (front ++ back) refl s.0 (joined_items front back s.1 k)

pub item_in : (items : List (ItemOf Listed)) (i : ℕ) (x : ItemOf Listed) → AreItems items → slice_get items i ≡ Some x → IsItem x
item_in [] zero x h e = absurd (cc e)
item_in [] (suc i) x h e = absurd (cc e)
item_in (y ∷ items) zero x h e = let same : y ≡ x = cc e in subst IsItem same (all_such (y ∷ items) h).0
item_in (y ∷ items) (suc i) x h e = item_in items i x (all_such (y ∷ items) h).1 e

-- one member changed
changed_items : (f : ItemOf Listed → ItemOf Listed) (items : List (ItemOf Listed)) (i : ℕ) → AreItems items → ((x : ItemOf Listed) → slice_get items i ≡ Some x → IsItem x → IsItem (f x))
    → AreItems (changed f i items)
changed_items f [] zero h g = h
changed_items f [] (suc i) h g = h
changed_items f (x ∷ items) zero h g = let s = all_such (x ∷ items) h in Q.more_items (f x ∷ items) (f x) items refl (g x refl s.0) s.1
changed_items f (x ∷ items) (suc i) h g = let s = all_such (x ∷ items) h in Q.more_items (x ∷ changed f i items) x (changed f i items) refl s.0 (changed_items f items i s.1 g)

same_kinds : (f : ItemOf Listed → ItemOf Listed) (items : List (ItemOf Listed)) (i : ℕ) → ((x : ItemOf Listed) → is_transition (f x) ≡ is_transition x)
    → map is_transition (changed f i items) ≡ map is_transition items
same_kinds f [] zero g = refl
same_kinds f [] (suc i) g = refl
same_kinds f (x ∷ items) zero g = ap (λ (t : Bool). t ∷ map is_transition items) (g x)
same_kinds f (x ∷ items) (suc i) g = ap (λ (l : List Bool). is_transition x ∷ l) (same_kinds f items i g)

abbrev any_true : List Bool → Bool
any_true [] = false
any_true (t ∷ ts) = t || any_true ts

any_by : (items : List (ItemOf Listed)) → list_any is_transition items ≡ any_true (map is_transition items)
any_by [] = refl
any_by (x ∷ items) = ap (λ (t : Bool). is_transition x || t) (any_by items)

abbrev two_true : List Bool → Bool
two_true [] = false
two_true (t ∷ []) = false
two_true (t ∷ u ∷ ts) = (t && u) || two_true (u ∷ ts)

two_by : (items : List (ItemOf Listed)) → side_by_side items ≡ two_true (map is_transition items)
two_by [] = refl
two_by (x ∷ []) = refl
two_by (x ∷ y ∷ items) = ap (λ (t : Bool). (is_transition x && is_transition y) || t) (two_by (y ∷ items))

any_changed : (f : ItemOf Listed → ItemOf Listed) (items : List (ItemOf Listed)) (i : ℕ) → ((x : ItemOf Listed) → is_transition (f x) ≡ is_transition x)
    → list_any is_transition (changed f i items) ≡ list_any is_transition items
any_changed f items i g = any_by (changed f i items) ∙ ap any_true (same_kinds f items i g) ∙ sym (any_by items)

two_changed : (f : ItemOf Listed → ItemOf Listed) (items : List (ItemOf Listed)) (i : ℕ) → ((x : ItemOf Listed) → is_transition (f x) ≡ is_transition x)
    → side_by_side (changed f i items) ≡ side_by_side items
two_changed f items i g = two_by (changed f i items) ∙ ap two_true (same_kinds f items i g) ∙ sym (two_by items)

deeper_kind : (f : Listed → Listed) (x : ItemOf Listed) → is_transition (deeper f x) ≡ is_transition x
deeper_kind f (I.Clip c) = refl
deeper_kind f (I.Gap g) = refl
deeper_kind f (I.Transition t) = refl
deeper_kind f (I.Stack s) = refl
deeper_kind f (I.Track t) = refl

-- a stack and a track with other children
stack_with : (s : StackOf Listed) (items : List (ItemOf Listed)) → IsStack s → AreItems items → list_any is_transition items ≡ list_any is_transition (items_of s.children)
    → IsStack (record s { children = listed items })
stack_with s items (Q.stack_of _ o effects markers none old) h same =
    Q.stack_of (record s { children = listed items }) o effects markers (ap (list_any is_transition) (items-listed items) ∙ same ∙ none) (subst AreItems (sym (items-listed items)) h)

track_with : (t : TrackOf Listed) (items : List (ItemOf Listed)) → Q.IsTrack t → AreItems items → side_by_side items ≡ side_by_side (items_of t.children)
    → Q.IsTrack (record t { children = listed items })
track_with t items (Q.track_of _ o effects markers none old) h same =
    Q.track_of (record t { children = listed items }) o effects markers (ap side_by_side (items-listed items) ∙ same ∙ none) (subst AreItems (sym (items-listed items)) h)

track_of_list : (t : TrackOf Listed) (m : Listed) → Q.IsTrack t → AreItems (items_of m) → side_by_side (items_of m) ≡ false → Q.IsTrack (record t { children = m })
track_of_list t m (Q.track_of _ o effects markers none old) h alone = Q.track_of (record t { children = m }) o effects markers alone h

leads_in : (place : List ℕ) (items : List (ItemOf Listed)) (i : ℕ) (x : ItemOf Listed) → IsSomeAnd (option_and_then (below place) (slice_get items i)) IsTrack → slice_get items i ≡ Some x
    → IsSomeAnd (below place x) IsTrack
leads_in place items i x h e = rw e at h

-- an item with the children of a track below it changed
item_with : (place : List ℕ) (m : Listed) (x : ItemOf Listed) → IsSomeAnd (below place x) IsTrack → IsItem x → AreItems (items_of m) → side_by_side (items_of m) ≡ false
    → IsItem (deeper (with_at place m) x)
item_with [] m (I.Clip c) leads h items alone = absurd leads
item_with [] m (I.Gap g) leads h items alone = absurd leads
item_with [] m (I.Transition t) leads h items alone = absurd leads
item_with [] m (I.Stack s) leads h items alone = absurd leads
item_with [] m (I.Track t) leads h items alone = Q.track (I.Track (record t { children = m })) (record t { children = m }) refl (track_of_list t m (such (I.Track t) h) items alone)
item_with (i ∷ place) m (I.Clip c) leads h items alone = absurd leads
item_with (i ∷ place) m (I.Gap g) leads h items alone = absurd leads
item_with (i ∷ place) m (I.Transition t) leads h items alone = absurd leads
item_with (i ∷ place) m (I.Stack s) leads h items alone =
    let own = such (I.Stack s) h in
    let new = changed_items (deeper (with_at place m)) (items_of s.children) i (stack_items s own)
    (λ x e k. item_with place m x (leads_in place (items_of s.children) i x leads e) k items alone) in
    Q.stack (I.Stack (record s { children = listed (changed (deeper (with_at place m)) i (items_of s.children)) })) (record s { children = listed (changed (deeper (with_at place m)) i (items_of s.children)) }) refl
    (stack_with s (changed (deeper (with_at place m)) i (items_of s.children)) own new (any_changed (deeper (with_at place m)) (items_of s.children) i (deeper_kind (with_at place m))))
item_with (i ∷ place) m (I.Track t) leads h items alone =
    let own = such (I.Track t) h in
    let new = changed_items (deeper (with_at place m)) (items_of t.children) i (track_items t own)
    (λ x e k. item_with place m x (leads_in place (items_of t.children) i x leads e) k items alone) in
    Q.track (I.Track (record t { children = listed (changed (deeper (with_at place m)) i (items_of t.children)) })) (record t { children = listed (changed (deeper (with_at place m)) i (items_of t.children)) }) refl
    (track_with t (changed (deeper (with_at place m)) i (items_of t.children)) own new (two_changed (deeper (with_at place m)) (items_of t.children) i (deeper_kind (with_at place m))))

-- the root stack with the children of a track below it changed
root_with : (place : List ℕ) (m : Listed) (s : StackOf Listed) → LeadsToTrack place s.children → IsStack s → AreItems (items_of m) → side_by_side (items_of m) ≡ false
    → IsStack (record s { children = with_at place m s.children })
root_with [] m s leads h items alone = absurd leads
root_with (i ∷ place) m s leads h items alone =
    let new = changed_items (deeper (with_at place m)) (items_of s.children) i (stack_items s h)
    (λ x e k. item_with place m x (leads_in place (items_of s.children) i x leads e) k items alone) in
    stack_with s (changed (deeper (with_at place m)) i (items_of s.children)) h new (any_changed (deeper (with_at place m)) (items_of s.children) i (deeper_kind (with_at place m)))

-- the children that a place leads to, through an item
through : (place : List ℕ) (found : Listed) (x : ItemOf Listed) → IsItem x → ((l : Listed) → AreItems (items_of l) → list_at place l ≡ Some found → AreItems (items_of found))
    → option_and_then (list_at place) (children_of x) ≡ Some found → AreItems (items_of found)
through place found (I.Clip c) h below_it e = absurd (cc e)
through place found (I.Gap g) h below_it e = absurd (cc e)
through place found (I.Transition t) h below_it e = absurd (cc e)
through place found (I.Stack s) h below_it e = below_it s.children (stack_items s (such (I.Stack s) h)) e
through place found (I.Track t) h below_it e = below_it t.children (track_items t (such (I.Track t) h)) e

through_at : (place : List ℕ) (found : Listed) (items : List (ItemOf Listed)) (i : ℕ) (o : Option (ItemOf Listed)) → slice_get items i ≡ o → AreItems items
    → ((l : Listed) → AreItems (items_of l) → list_at place l ≡ Some found → AreItems (items_of found))
    → option_and_then (λ x. option_and_then (list_at place) (children_of x)) o ≡ Some found → AreItems (items_of found)
through_at place found items i None q h below_it e = absurd (cc e)
through_at place found items i (Some x) q h below_it e = through place found x (item_in items i x h q) below_it e

list_in : (place : List ℕ) (l found : Listed) → AreItems (items_of l) → list_at place l ≡ Some found → AreItems (items_of found)
list_in [] l found h e = let same : l ≡ found = cc e in subst (λ (x : Listed). AreItems (items_of x)) same h
list_in (i ∷ place) l found h e = through_at place found (items_of l) i (slice_get (items_of l) i) refl h (λ k hk q. list_in place k found hk q) e

applied_is : (p : Patch) (t : Timeline) (l : Listed) → target p t ≡ Some l → applied p t ≡ with_list p l t
applied_is p t l e = rw (e, applied) refl

-- items with other source ranges
sourced_item : (r : Option Span) (x : ItemOf Listed) → IsItem x → IsItem (with_source r x)
sourced_item r (I.Clip c) h = Q.clip _ (record c { source_range = r }) refl (such (I.Clip c) h)
sourced_item r (I.Gap g) h = Q.gap _ (record g { source_range = r }) refl (such (I.Gap g) h)
sourced_item r (I.Transition t) h = h
sourced_item r (I.Stack s) h = Q.stack _ (record s { source_range = r }) refl (by (such (I.Stack s) h))
  where
    by : IsStack s → IsStack (record s { source_range = r })
    by (Q.stack_of _ o effects markers none items) = Q.stack_of _ o effects markers none items
sourced_item r (I.Track t) h = Q.track _ (record t { source_range = r }) refl (by (such (I.Track t) h))
  where
    by : Q.IsTrack t → Q.IsTrack (record t { source_range = r })
    by (Q.track_of _ o effects markers alone items) = Q.track_of _ o effects markers alone items

sourced_items : (rs : List (Option Span)) (items : List (ItemOf Listed)) → AreItems items → AreItems (with_sources rs items)
sourced_items [] items h = h
sourced_items (r ∷ rs) [] h = h
sourced_items (r ∷ rs) (x ∷ items) h = let s = all_such (x ∷ items) h in
    Q.more_items _ (with_source r x) (with_sources rs items) refl (sourced_item r x s.0) (sourced_items rs items s.1)

retimed_items : (at : ℕ) (rs : List (Option Span)) (items : List (ItemOf Listed)) → AreItems items → AreItems (retimed at rs items)
retimed_items zero rs items h = sourced_items rs items h
retimed_items (suc at) rs [] h = h
retimed_items (suc at) rs (x ∷ items) h = let s = all_such (x ∷ items) h in
    Q.more_items _ x (retimed at rs items) refl s.0 (retimed_items at rs items s.1)

-- items as a patch leaves them
put_items : (at : ℕ) (q : Put) (items : List (ItemOf Listed)) → AreItems items → ArePut q → AreItems (put_at at q items)
put_items at (Items count put) items own h =
    joined_items (take at items) (put ++ drop (at + count) items) (front_items at items own)
    (joined_items put (drop (at + count) items) h (back_items (at + count) items own))
put_items at (Ranges rs) items own h = retimed_items at rs items own

pub patched_is_writable : (p : Patch) (t : Timeline) (l : Listed) → IsFit p t → target p t ≡ Some l → IsTimeline t → ArePut p.put → side_by_side (put_at p.at p.put (items_of l)) ≡ false
    → IsTimeline (applied p t)
patched_is_writable p t l fit e h put alone =
    let own = list_in p.place t.tracks.children l (stack_items t.tracks h.1) e in
    let now = put_at p.at p.put (items_of l) in
    let new : AreItems now = put_items p.at p.put (items_of l) own put in
    let root : IsStack (with_list p l t).tracks =
    root_with p.place (listed now) t.tracks fit.track h.1 (subst AreItems (sym (items-listed now)) new)
    (ap side_by_side (items-listed now) ∙ alone) in
    subst IsTimeline (sym (applied_is p t l e)) (h.0, root)

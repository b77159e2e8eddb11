-- What is written of a writable object in the older family, and upgraded, reads back as that object.
use Rattle.std.proofs.Common.{◌≡◌, ◌≢◌, ℕ, suc, zero, false, List, [], ◌∷◌, map, Some, None, refl, sym, ap, ◌∙◌, codes, subst, slice_get}
use Rattle.std.specs.Prelude.{option_and_then}
use Rattle.std.specs.List.{list_any}
use Rattle.json_value.specs.declared.Json.{Json, Str, Map, Null, Bool as JsonOfBool, List as JsonOfList}
use Rattle.otio_model.specs.declared.compositions.Listed.{Listed}
use Rattle.otio_model.specs.declared.compositions.ItemOf.{ItemOf}
use Rattle.otio_model.specs.declared.compositions.ItemOf.TheVariants as I
use Rattle.otio_model.specs.declared.compositions.Gap.{Gap}
use Rattle.otio_model.specs.declared.compositions.Transition.{Transition}
use Rattle.otio_model.specs.declared.compositions.StackOf.{StackOf}
use Rattle.otio_model.specs.declared.compositions.TrackOf.{TrackOf}
use Rattle.otio_model.specs.declared.timelines.Timeline.{Timeline}
use Rattle.otio_model.specs.declared.objects.Object.{Object, out-Object}
use Rattle.otio_model.specs.declared.objects.Object.TheOpen.{Object-F}
use Rattle.otio_model.specs.declared.objects.Object.TheViews.{roll-Object, roll-out-Object}
use Rattle.otio_model.specs.declared.objects.Object.TheFolds.{fold-roll-Object}
use Rattle.otio_model.specs.declared.objects.Collection.{Collection, out-Collection}
use Rattle.otio_model.specs.Trees.{items_of, children_of, is_transition, below}
use Rattle.schema_rows.specs.Rows as R
use Rattle.schema_rows.specs.Rows.{Row}
use Rattle.schema_rows.specs.declared.schemas.Schema.{Schema}
use Rattle.schema_rows.specs.declared.schemas.Schema.TheVariants as S
use Rattle.schema_rows.specs.declared.schemas.TheConstants as C
use Rattle.schema_up.specs.declared.old_names.Form.TheVariants as F
use Rattle.schema_up.specs.declared.old_names.Row.TheVariants.{Kept, Object as ObjectRow, Objects}
use Rattle.schema_up.specs.UpgradeRows.{row_of}
use Rattle.schema_up.specs.Upgrades.{Pairs, upgraded, upgraded_at, items_at}
use Rattle.schema_rows.specs.Schemas.{rows_of, text_of, name_of, named}
use Rattle.schema_rows.specs.Families.{others, child}
use Rattle.schema_up.proofs.PutLemmas.{differs}
use Rattle.schema_up.proofs.Levels.{upgraded_at-Map, upgraded_at-List, kept_same}
use Rattle.schema_write.specs.Objects.{span_json, offset_json, effects_json, old_mark_json, markers_by, markers_json, older, gap_in, transition_json, stack_by, track_by, children_in, item_in, timeline_in, collection_in, object_in, object_step, collection_step, old_json_of}
use Rattle.schema_write.specs.OldForms.{markers_fault, old_fault_of, held_in, HasOldForm}
use Rattle.schema_write.proofs.Distinct.{fixed, excludes_head}
use Rattle.object_law.specs.Writable.{AreOthers, AreMarkers, IsGap, IsTransition}
use Rattle.schema_rows.specs.declared.values.Value.TheVariants as V
use Rattle.schema_rows.specs.Readings.{known, object_layer, object_fields, timeline_fields, collection_fields, gap_fields, transition_fields, stack_fields, track_fields, item_fields}
use Rattle.schema_rows.specs.Stands as W
use Rattle.schema_rows.specs.Stands.{Gives_fields, Gives_all, Stands}
use Rattle.object_law.specs.Writable as Q
use Rattle.object_law.specs.Writable.{AreEffects, IsItem, IsStack, IsTrack, AreItems, IsTimeline, IsObject, AreObjects}
use Rattle.otio_model.specs.Misplaced.{side_by_side}
use Rattle.schema_write.specs.OldWalk.{AreOld, into_item}
use Rattle.schema_write.proofs.Trees.{children_are, collection_is}
use Rattle.object_law.proofs.Leaves.{map_not_null}
use Rattle.object_law.proofs.FoundMembers.{Holds}
use Rattle.object_law.proofs.HeldValues.{held_as, list_not_null, meta_held, text_held}
use Rattle.object_law.proofs.NamedSchemas.{written_stands}
use Rattle.object_law.proofs.Writables.{shared_held, or_none, HasItems, among_items, among_roots, offset_held, gap_given, transition_given}
use Rattle.object_law.proofs.OldMembers.{object_becomes, others_stay, where_not}
use Rattle.object_law.proofs.OldClips.{transition_same, list_become, markers_free, gap_upgraded, clip_old}

-- items by places: nothing stands in the way of one of them
abbrev AllOld : List (ItemOf Listed) → Type 0
AllOld items = (i : ℕ) (x : ItemOf Listed) → slice_get items i ≡ Some x → AreOld (into_item x)

children_old : (x : ItemOf Listed) (l : Listed) → children_of x ≡ Some l → AreOld (into_item x)
    → AllOld (items_of l)
children_old x l e h i y at place z b = h (i ∷ place) z
    (ap (option_and_then (λ m. option_and_then (below place) (slice_get (items_of m) i))) e
    ∙ ap (option_and_then (below place)) at ∙ b)

-- children as they are written in the older family, and upgraded
old_item_json : ItemOf Listed → Json
old_item_json x = upgraded (item_in older x)

abbrev AreGivenOld : List (ItemOf Listed) → Type 0
AreGivenOld items = Gives_all (child C.ITEMS) (map old_item_json items)
    (map (λ item. known (item_fields item)) items)

each_upgraded : (items : List (ItemOf Listed))
    → items_at ObjectRow (map (item_in older) items) ≡ map old_item_json items
unfolding old_item_json
each_upgraded [] = refl
each_upgraded (x ∷ items) = ap (λ (l : List Json). upgraded (item_in older x) ∷ l) (each_upgraded items)

children_become : (l : Listed) → upgraded_at (JsonOfList (children_in older l)) Objects
    ≡ JsonOfList (map old_item_json (items_of l))
children_become l =
    ap (λ (xs : List Json). upgraded_at (JsonOfList xs) Objects) (children_are older l)
    ∙ upgraded_at-List (map (item_in older) (items_of l)) Objects
    ∙ ap JsonOfList (each_upgraded (items_of l))

old_items_held : (row : Row) (items : List (ItemOf Listed)) → row.kind ≡ R.items
    → AreGivenOld items → Holds row (JsonOfList (map old_item_json items)) (V.Items items)
old_items_held row items k h =
    held_as row R.items (JsonOfList (map old_item_json items)) (V.Items items) k (list_not_null _)
    (W.items R.items (JsonOfList (map old_item_json items)) (V.Items items) (map old_item_json items)
    items refl refl h refl)

-- the other members of a composition stay
stack_stays : (name : List ℕ) → fixed (rows_of S.Stack) name ≡ false → row_of F.Stack name ≡ Kept
stack_stays name e =
    let head = excludes_head (rows_of S.Stack) in
    rw (differs name (codes "children") (head.1.1.1.1.1.1.1.0 name e))
    (where_not name (codes "markers") Objects (head.1.1.1.1.1.0 name e))

track_stays : (name : List ℕ) → fixed (rows_of S.Track) name ≡ false → row_of F.Track name ≡ Kept
track_stays name e =
    let head = excludes_head (rows_of S.Track) in
    rw (differs name (codes "children") (head.1.1.1.1.1.1.1.0 name e))
    (where_not name (codes "markers") Objects (head.1.1.1.1.1.0 name e))

stack_old : (family : List Schema) → named (name_of S.Stack) family ≡ Some S.Stack
    → (s : StackOf Listed) → AreOthers S.Stack s.rest → AreEffects s.effects → AreMarkers s.markers
    → list_any is_transition (items_of s.children) ≡ false → markers_fault s.markers ≡ None
    → AreGivenOld (items_of s.children)
    → Gives_fields family (upgraded (stack_by older (children_in older) s)) (stack_fields s)
stack_old family found s o effects markers none free items =
    let jsons = λ (k l : Json). Map s.metadata ∷ Str s.name ∷ span_json s.source_range
    ∷ effects_json s.effects ∷ k ∷ JsonOfBool s.enabled ∷ l ∷ [] in
    let inside = JsonOfList (map old_item_json (items_of s.children)) in
    let same = object_becomes F.Stack (text_of S.Stack) (rows_of S.Stack)
    (jsons (markers_by old_mark_json s.markers) (JsonOfList (children_in older s.children)))
    (jsons (markers_json s.markers) inside) (others (rows_of S.Stack) s.rest) refl refl (
      kept_same _,
      (
        kept_same _,
        (
          kept_same _,
          (
            kept_same _,
            (
              list_become s.markers markers (markers_free s.markers free),
              (kept_same _, (children_become s.children, tt)),
            ),
          ),
        ),
      ),
    )
    (others_stay F.Stack (rows_of S.Stack) s.rest stack_stays) in
    subst (λ (json : Json). Gives_fields family json (stack_fields s)) (sym same)
    (written_stands family S.Stack (jsons (markers_json s.markers) inside)
    (V.Meta s.metadata ∷ V.Text s.name ∷ V.Span s.source_range ∷ V.Effects s.effects
    ∷ V.Markers s.markers ∷ V.Flag s.enabled ∷ V.Items (items_of s.children) ∷ []) s.rest found
    (shared_held s.metadata s.name s.source_range s.effects s.markers s.enabled
    (R.optional (codes "children") R.items ∷ []) (inside ∷ []) (V.Items (items_of s.children) ∷ [])
    effects markers
    (old_items_held _ (items_of s.children) refl items, tt))
    (or_none (list_any is_transition (items_of s.children)) none) refl o)

track_old : (family : List Schema) → named (name_of S.Track) family ≡ Some S.Track
    → (t : TrackOf Listed) → AreOthers S.Track t.rest → AreEffects t.effects → AreMarkers t.markers
    → side_by_side (items_of t.children) ≡ false → markers_fault t.markers ≡ None
    → AreGivenOld (items_of t.children)
    → Gives_fields family (upgraded (track_by older (children_in older) t)) (track_fields t)
track_old family found t o effects markers none free items =
    let jsons = λ (k l : Json). Map t.metadata ∷ Str t.name ∷ span_json t.source_range
    ∷ effects_json t.effects ∷ k ∷ JsonOfBool t.enabled ∷ l ∷ Str t.kind ∷ [] in
    let inside = JsonOfList (map old_item_json (items_of t.children)) in
    let same = object_becomes F.Track (text_of S.Track) (rows_of S.Track)
    (jsons (markers_by old_mark_json t.markers) (JsonOfList (children_in older t.children)))
    (jsons (markers_json t.markers) inside) (others (rows_of S.Track) t.rest) refl refl (
      kept_same _,
      (
        kept_same _,
        (
          kept_same _,
          (
            kept_same _,
            (
              list_become t.markers markers (markers_free t.markers free),
              (kept_same _, (children_become t.children, (kept_same _, tt))),
            ),
          ),
        ),
      ),
    )
    (others_stay F.Track (rows_of S.Track) t.rest track_stays) in
    subst (λ (json : Json). Gives_fields family json (track_fields t)) (sym same)
    (written_stands family S.Track (jsons (markers_json t.markers) inside)
    (V.Meta t.metadata ∷ V.Text t.name ∷ V.Span t.source_range ∷ V.Effects t.effects
    ∷ V.Markers t.markers ∷ V.Flag t.enabled ∷ V.Items (items_of t.children) ∷ V.Text t.kind ∷ []) t.rest found
    (shared_held t.metadata t.name t.source_range t.effects t.markers t.enabled
    (R.optional (codes "children") R.items
    ∷ R.optional (codes "kind") (R.text (codes "Video")) ∷ []) (inside ∷ Str t.kind ∷ [])
    (V.Items (items_of t.children) ∷ V.Text t.kind ∷ []) effects markers
    (old_items_held _ (items_of t.children) refl items, (text_held _ (codes "Video") t.kind refl, tt)))
    (or_none (side_by_side (items_of t.children)) none) refl o)

-- an item
old_as : (family : List Schema) (item i : ItemOf Listed) → item ≡ i
    → Gives_fields family (upgraded (item_in older i)) (item_fields i)
    → Gives_fields family (upgraded (item_in older item)) (item_fields item)
old_as family item i e h = subst (λ (x : ItemOf Listed).
    Gives_fields family (upgraded (item_in older x)) (item_fields x)) (sym e) h

free_of : (item i : ItemOf Listed) → item ≡ i → AreOld (into_item item) → old_fault_of i ≡ None
free_of item i e h = subst (λ (x : ItemOf Listed). old_fault_of x ≡ None) e (h [] item refl)

none_old : (items : List (ItemOf Listed)) → items ≡ [] → AreGivenOld items
none_old items e = subst AreGivenOld (sym e) (W.no_more (child C.ITEMS) [] [] refl refl)

more_old : (items : List (ItemOf Listed)) (item : ItemOf Listed) (behind : List (ItemOf Listed))
    → items ≡ item ∷ behind → Gives_fields C.ITEMS (old_item_json item) (item_fields item)
    → AreGivenOld behind → AreGivenOld items
more_old items item behind e h hs = subst AreGivenOld (sym e)
    (W.one_more (child C.ITEMS) (map old_item_json (item ∷ behind))
    (map (λ item. known (item_fields item)) (item ∷ behind)) (old_item_json item)
    (map old_item_json behind) (known (item_fields item))
    (map (λ item. known (item_fields item)) behind) refl refl
    (W.as_child (child C.ITEMS) (old_item_json item) (known (item_fields item)) C.ITEMS
    (item_fields item) refl refl h) hs)

gap_old : (family : List Schema) → named (name_of S.Gap) family ≡ Some S.Gap → (g : Gap) → IsGap g
    → markers_fault g.markers ≡ None
    → Gives_fields family (upgraded (gap_in older g)) (gap_fields g)
gap_old family found g h free = subst (λ (json : Json). Gives_fields family json (gap_fields g))
    (sym (gap_upgraded g h free)) (gap_given family found g h)

transition_old : (family : List Schema) → named (name_of S.Transition) family ≡ Some S.Transition
    → (t : Transition) → IsTransition t
    → Gives_fields family (upgraded (transition_json t)) (transition_fields t)
transition_old family found t h =
    subst (λ (json : Json). Gives_fields family json (transition_fields t))
    (sym (transition_same t)) (transition_given family found t h)

head_old : (items : List (ItemOf Listed)) (item : ItemOf Listed) (behind : List (ItemOf Listed))
    → items ≡ item ∷ behind → AllOld items → AreOld (into_item item)
head_old items item behind e h = h zero item (ap (λ (l : List (ItemOf Listed)). slice_get l zero) e)

tail_old : (items : List (ItemOf Listed)) (item : ItemOf Listed) (behind : List (ItemOf Listed))
    → items ≡ item ∷ behind → AllOld items → AllOld behind
tail_old items item behind e h i x at =
    h (suc i) x (ap (λ (l : List (ItemOf Listed)). slice_get l (suc i)) e ∙ at)

shown_old : (item i : ItemOf Listed) (l : Listed) → item ≡ i → children_of i ≡ Some l
    → AreOld (into_item item) → AllOld (items_of l)
shown_old item i l e c h = children_old item l (ap children_of e ∙ c) h

as_given : (family : List Schema) (item : ItemOf Listed)
    → Gives_fields family (upgraded (item_in older item)) (item_fields item)
    → Gives_fields family (old_item_json item) (item_fields item)
unfolding old_item_json
as_given family item h = h

mutual
  item_old : (item : ItemOf Listed) → IsItem item → AreOld (into_item item) → (family : List Schema)
      → HasItems family → Gives_fields family (upgraded (item_in older item)) (item_fields item)
  item_old item (Q.clip _ c e h) free family has =
      old_as family item (I.Clip c) e (clip_old family has.clip c h (free_of item (I.Clip c) e free))
  item_old item (Q.gap _ g e h) free family has =
      old_as family item (I.Gap g) e (gap_old family has.gap g h (free_of item (I.Gap g) e free))
  item_old item (Q.transition _ t e h) free family has =
      old_as family item (I.Transition t) e (transition_old family has.transition t h)
  item_old item (Q.stack _ s e h) free family has = old_as family item (I.Stack s) e
      (stack_whole s h family has.stack (free_of item (I.Stack s) e free)
      (shown_old item (I.Stack s) s.children e refl free))
  item_old item (Q.track _ t e h) free family has = old_as family item (I.Track t) e
      (track_whole t h family has.track (free_of item (I.Track t) e free)
      (shown_old item (I.Track t) t.children e refl free))

  stack_whole : (s : StackOf Listed) → IsStack s → (family : List Schema)
      → named (name_of S.Stack) family ≡ Some S.Stack → markers_fault s.markers ≡ None
      → AllOld (items_of s.children)
      → Gives_fields family (upgraded (stack_by older (children_in older) s)) (stack_fields s)
  stack_whole s (Q.stack_of _ o effects markers none items) family found free all =
      stack_old family found s o effects markers none free (items_old (items_of s.children) items all)

  track_whole : (t : TrackOf Listed) → IsTrack t → (family : List Schema)
      → named (name_of S.Track) family ≡ Some S.Track → markers_fault t.markers ≡ None
      → AllOld (items_of t.children)
      → Gives_fields family (upgraded (track_by older (children_in older) t)) (track_fields t)
  track_whole t (Q.track_of _ o effects markers none items) family found free all =
      track_old family found t o effects markers none free (items_old (items_of t.children) items all)

  items_old : (items : List (ItemOf Listed)) → AreItems items → AllOld items → AreGivenOld items
  items_old items (Q.no_items _ e) all = none_old items e
  items_old items (Q.more_items _ item behind e h hs) all = more_old items item behind e
      (as_given C.ITEMS item (item_old item h (head_old items item behind e all) C.ITEMS among_items))
      (items_old behind hs (tail_old items item behind e all))

-- a timeline
timeline_stays : (name : List ℕ) → fixed (rows_of S.Timeline) name ≡ false
    → row_of F.Timeline name ≡ Kept
timeline_stays name e = where_not name (codes "tracks") ObjectRow
    ((excludes_head (rows_of S.Timeline)).1.1.1.1.0 name e)

upgraded_some : (ms : Pairs) → upgraded (Map ms) ≢ Null
upgraded_some ms = subst (λ (json : Json). json ≢ Null) (sym (upgraded_at-Map ms ObjectRow))
    (map_not_null _)

timeline_old : (t : Timeline) → IsTimeline t → AreOld (into_item (I.Stack t.tracks))
    → Gives_fields C.ROOTS (upgraded (timeline_in older t)) (timeline_fields t)
timeline_old t h free =
    let tracks = stack_by older (children_in older) t.tracks in
    let inside = upgraded tracks in
    let jsons = λ (k : Json). Map t.metadata ∷ Str t.name ∷ offset_json t.global_start_time
    ∷ k ∷ [] in
    let same = object_becomes F.Timeline (text_of S.Timeline) (rows_of S.Timeline) (jsons tracks)
    (jsons inside) (others (rows_of S.Timeline) t.rest) refl refl
    (kept_same _, (kept_same _, (kept_same _, (refl, tt))))
    (others_stay F.Timeline (rows_of S.Timeline) t.rest timeline_stays) in
    let stack = stack_whole t.tracks h.1 C.STACKS refl (free [] (I.Stack t.tracks) refl)
    (children_old (I.Stack t.tracks) t.tracks.children refl free) in
    let held : Holds (R.optional (codes "tracks") R.stack) inside (V.Stack t.tracks) =
    held_as (R.optional (codes "tracks") R.stack) R.stack inside (V.Stack t.tracks) refl
    (upgraded_some _) (W.stack R.stack inside (V.Stack t.tracks) t.tracks refl stack refl) in
    subst (λ (json : Json). Gives_fields C.ROOTS json (timeline_fields t)) (sym same)
    (written_stands C.ROOTS S.Timeline (jsons inside)
    (V.Meta t.metadata ∷ V.Text t.name ∷ V.Time t.global_start_time ∷ V.Stack t.tracks ∷ []) t.rest
    refl (
      meta_held _ t.metadata refl,
      (
        text_held _ [] t.name refl,
        (offset_held _ t.global_start_time refl refl, (held, tt)),
      ),
    ) refl refl h.0)

-- objects by places
AllOldObjects : List Object → Type 0
AllOldObjects objects = (i : ℕ) (x : Object) → slice_get objects i ≡ Some x → HasOldForm x

old_object : Object → Json
old_object x = upgraded (object_in older x)

AreGivenOldObjects : List Object → Type 0
AreGivenOldObjects objects = Gives_all (child C.ROOTS) (map old_object objects)
    (map (λ object. known (object_fields object)) objects)

each_object : (objects : List Object)
    → items_at ObjectRow (map (object_in older) objects) ≡ map old_object objects
unfolding old_object
each_object [] = refl
each_object (x ∷ objects) =
    ap (λ (l : List Json). upgraded (object_in older x) ∷ l) (each_object objects)

collection_stays : (name : List ℕ) → fixed (rows_of S.Collection) name ≡ false
    → row_of F.Collection name ≡ Kept
collection_stays name e = where_not name (codes "children") Objects
    ((excludes_head (rows_of S.Collection)).1.1.1.0 name e)

collection_old : (c : Collection) → AreOthers S.Collection (out-Collection c).rest
    → AreGivenOldObjects (out-Collection c).children
    → Gives_fields C.ROOTS (upgraded (collection_in older c)) (collection_fields c)
unfolding AreGivenOldObjects
collection_old c o objects =
    let x = out-Collection c in
    let before = JsonOfList (map (object_in older) x.children) in
    let inside = JsonOfList (map old_object x.children) in
    let jsons = λ (k : Json). Map x.metadata ∷ Str x.name ∷ k ∷ [] in
    let become = upgraded_at-List (map (object_in older) x.children) Objects
    ∙ ap JsonOfList (each_object x.children) in
    let same = object_becomes F.Collection (text_of S.Collection) (rows_of S.Collection)
    (jsons before) (jsons inside) (others (rows_of S.Collection) x.rest) refl refl
    (kept_same _, (kept_same _, (become, tt)))
    (others_stay F.Collection (rows_of S.Collection) x.rest collection_stays) in
    let held : Holds (R.optional (codes "children") R.objects) inside (V.Objects x.children) =
    held_as (R.optional (codes "children") R.objects) R.objects inside (V.Objects x.children) refl
    (list_not_null _)
    (W.objects R.objects inside (V.Objects x.children) (map old_object x.children) x.children refl
    refl objects refl) in
    subst (λ (json : Json). Gives_fields C.ROOTS json (collection_fields c)) (sym same)
    (written_stands C.ROOTS S.Collection (jsons inside)
    (V.Meta x.metadata ∷ V.Text x.name ∷ V.Objects x.children ∷ []) x.rest refl
    (meta_held _ x.metadata refl, (text_held _ [] x.name refl, (held, tt))) refl refl o)

-- an object by what it is
layer_json : Object-F Object Collection → Json
layer_json (Object-F.Timeline t) = timeline_in older t
layer_json (Object-F.Collection c) = collection_in older c
layer_json (Object-F.Item i) = item_in older i

layer_is : (layer : Object-F Object Collection) → object_in older (roll-Object layer) ≡ layer_json layer
unfolding layer_json
layer_is (Object-F.Timeline t) =
    fold-roll-Object Json Json (object_step older) collection_step (Object-F.Timeline t)
layer_is (Object-F.Collection c) =
    fold-roll-Object Json Json (object_step older) collection_step (Object-F.Collection c)
    ∙ collection_is older c
layer_is (Object-F.Item i) =
    fold-roll-Object Json Json (object_step older) collection_step (Object-F.Item i)

object_layered : (object : Object) → object_in older object ≡ layer_json (out-Object object)
object_layered object = ap (object_in older) (sym (roll-out-Object object)) ∙ layer_is (out-Object object)

layer_old : (object : Object) (layer : Object-F Object Collection) → out-Object object ≡ layer
    → Gives_fields C.ROOTS (upgraded (layer_json layer)) (object_layer layer)
    → Stands (upgraded (old_json_of object)) object
layer_old object layer e h =
    let own : Gives_fields C.ROOTS (upgraded (layer_json (out-Object object))) (object_fields object) =
    subst (λ (x : Object-F Object Collection).
    Gives_fields C.ROOTS (upgraded (layer_json x)) (object_layer x)) (sym e) h in
    subst (λ (json : Json). Gives_fields C.ROOTS (upgraded json) (object_fields object))
    (sym (object_layered object)) own

timeline_layer : (t : Timeline) → Gives_fields C.ROOTS (upgraded (timeline_in older t)) (timeline_fields t)
    → Gives_fields C.ROOTS (upgraded (layer_json (Object-F.Timeline t))) (object_layer (Object-F.Timeline t))
unfolding layer_json
timeline_layer t h = h

collection_layer : (c : Collection)
    → Gives_fields C.ROOTS (upgraded (collection_in older c)) (collection_fields c)
    → Gives_fields C.ROOTS (upgraded (layer_json (Object-F.Collection c))) (object_layer (Object-F.Collection c))
unfolding layer_json
collection_layer c h = h

item_layer : (i : ItemOf Listed) → Gives_fields C.ROOTS (upgraded (item_in older i)) (item_fields i)
    → Gives_fields C.ROOTS (upgraded (layer_json (Object-F.Item i))) (object_layer (Object-F.Item i))
unfolding layer_json
item_layer i h = h

-- what places lead to in an object, by what it is
timeline_places : (object : Object) (t : Timeline) → out-Object object ≡ Object-F.Timeline t
    → HasOldForm object → AreOld (into_item (I.Stack t.tracks))
timeline_places object t e h place x at = h place x (ap (λ (l : Object-F Object Collection). held_in l place) e ∙ at)

item_places : (object : Object) (i : ItemOf Listed) → out-Object object ≡ Object-F.Item i
    → HasOldForm object → AreOld (into_item i)
item_places object i e h place x at = h place x (ap (λ (l : Object-F Object Collection). held_in l place) e ∙ at)

collection_places : (object : Object) (c : Collection) → out-Object object ≡ Object-F.Collection c
    → HasOldForm object → AllOldObjects (out-Collection c).children
unfolding AllOldObjects
collection_places object c e h i y got place x at = h (i ∷ place) x
    (ap (λ (l : Object-F Object Collection). held_in l (i ∷ place)) e
    ∙ ap (option_and_then (λ object. held_in (out-Object object) place)) got ∙ at)

no_old : (objects : List Object) → objects ≡ [] → AreGivenOldObjects objects
unfolding AreGivenOldObjects
no_old objects e = subst (λ (l : List Object). Gives_all (child C.ROOTS) (map old_object l)
    (map (λ object. known (object_fields object)) l)) (sym e)
    (W.no_more (child C.ROOTS) [] [] refl refl)

one_old : (objects : List Object) (object : Object) (behind : List Object)
    → objects ≡ object ∷ behind → Stands (upgraded (old_json_of object)) object
    → AreGivenOldObjects behind → AreGivenOldObjects objects
unfolding AreGivenOldObjects old_object
one_old objects object behind e h hs = subst (λ (l : List Object).
    Gives_all (child C.ROOTS) (map old_object l)
    (map (λ object. known (object_fields object)) l)) (sym e)
    (W.one_more (child C.ROOTS) (map old_object (object ∷ behind))
    (map (λ object. known (object_fields object)) (object ∷ behind)) (old_object object)
    (map old_object behind) (known (object_fields object))
    (map (λ object. known (object_fields object)) behind) refl refl
    (W.as_child (child C.ROOTS) (old_object object) (known (object_fields object)) C.ROOTS
    (object_fields object) refl refl h) hs)

first_object : (objects : List Object) (object : Object) (behind : List Object)
    → objects ≡ object ∷ behind → AllOldObjects objects → HasOldForm object
unfolding AllOldObjects
first_object objects object behind e h =
    h zero object (ap (λ (l : List Object). slice_get l zero) e)

later_objects : (objects : List Object) (object : Object) (behind : List Object)
    → objects ≡ object ∷ behind → AllOldObjects objects → AllOldObjects behind
unfolding AllOldObjects
later_objects objects object behind e h i x at =
    h (suc i) x (ap (λ (l : List Object). slice_get l (suc i)) e ∙ at)

mutual
  pub object_old : (object : Object) → IsObject object → HasOldForm object
      → Stands (upgraded (old_json_of object)) object
  object_old object (Q.timeline _ t e h) free = layer_old object (Object-F.Timeline t) e
      (timeline_layer t (timeline_old t h (timeline_places object t e free)))
  object_old object (Q.collection _ c e o objects) free =
      layer_old object (Object-F.Collection c) e (collection_layer c (collection_old c o
      (objects_old (out-Collection c).children objects (collection_places object c e free))))
  object_old object (Q.item _ i e h) free = layer_old object (Object-F.Item i) e
      (item_layer i (item_old i h (item_places object i e free) C.ROOTS among_roots))

  objects_old : (objects : List Object) → AreObjects objects → AllOldObjects objects
      → AreGivenOldObjects objects
  objects_old objects (Q.no_objects _ e) free = no_old objects e
  objects_old objects (Q.more_objects _ object behind e h hs) free =
      one_old objects object behind e (object_old object h (first_object objects object behind e free))
      (objects_old behind hs (later_objects objects object behind e free))

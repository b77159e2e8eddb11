-- A timeline that can be written can be written with notes.
use Rattle.std.proofs.Common.{◌≡◌, ◌&&◌, ◌||◌, ℕ, ℤ, Bool, false, List, [], ◌∷◌, ◌++◌, Option, Some, None, map, refl, sym, ap, ap₂, subst, ◌∙◌}
use Rattle.std.specs.List.{list_any}
use Rattle.tick_time.specs.declared.rates.Rate.{Rate}
use Rattle.otio_model.specs.declared.markers.Marker.{Marker}
use Rattle.otio_model.specs.declared.compositions.Clip.{Clip as ClipRow}
use Rattle.otio_model.specs.declared.compositions.Gap.{Gap as GapRow}
use Rattle.otio_model.specs.declared.compositions.ItemOf.{ItemOf}
use Rattle.otio_model.specs.declared.compositions.ItemOf.TheVariants.{Clip, Gap, Transition, Stack, Track}
use Rattle.otio_model.specs.declared.compositions.Listed.{Listed}
use Rattle.otio_model.specs.declared.compositions.StackOf.{StackOf}
use Rattle.otio_model.specs.declared.compositions.TrackOf.{TrackOf}
use Rattle.otio_model.specs.declared.timelines.Timeline.{Timeline}
use Rattle.otio_model.specs.declared.objects.Object.{Timeline as ObjectOfTimeline, out-Object}
use Rattle.otio_model.specs.declared.objects.Object.TheOpen.{Object-F}
use Rattle.otio_model.specs.Misplaced.{side_by_side}
use Rattle.otio_model.specs.Trees.{is_transition, items_of, listed}
use Rattle.otio_model.proofs.Views.{items-listed}
use Rattle.schema_rows.specs.declared.schemas.Schema.TheVariants as S
use Rattle.schema_write.proofs.OldLemmas.{timeline_out}
use Rattle.object_law.specs.Writable as W
use Rattle.object_law.specs.Writable.{AreMarkers, AreOthers, IsMarker, IsObject}
use Rattle.edl_list.specs.declared.list.Channel.{Channel}
use Rattle.edl_list.specs.declared.list.Event.{Event}
use Rattle.edl_list.specs.declared.list.EventList.{EventList}
use Rattle.edl_frames.specs.Carried.{channel_of}
use Rattle.note_text.specs.Noted.{AreMarkersOf, AreNotedBelow, AreNotedChildren, AreNotedRoots, IsMarkerOf, IsNoted, IsNotedItem, IsNotedRoot, end, noted, other, said_of}
use Rattle.note_text.specs.declared.notes.Said.{Said}
use Rattle.note_text.specs.declared.notes.Said.TheVariants.{Loc, Sop, Sat}
use Rattle.note_text.specs.declared.notes.Note.{Note}

-- ---- markers

markers_append : (xs ys : List Marker) → AreMarkers xs → AreMarkers ys → AreMarkers (xs ++ ys)
markers_append [] ys h k = k
markers_append (x ∷ xs) ys h k = (h.0, markers_append xs ys h.1 k)

marker_writable : (rate : Rate) (e : Event) (at : ℤ) (color name : List ℕ) (m : Marker) → IsMarkerOf rate e at color name m → IsMarker m
marker_writable rate e at color name m i = subst IsMarker (sym i.is) (subst (AreOthers S.Marker) (sym i.rest) refl)

markers_writable : (rate : Rate) (e : Event) (said : List Said) (ms : List Marker) → AreMarkersOf rate e said ms → AreMarkers ms
markers_writable rate e [] ms h = subst AreMarkers (sym h) tt
markers_writable rate e (Loc at color name ∷ said) ms h = subst AreMarkers (sym h.2) (marker_writable rate e at color name h.0 h.3, markers_writable rate e said h.1 h.4)
markers_writable rate e (Sop slope offset power ∷ said) ms h = markers_writable rate e said ms h
markers_writable rate e (Sat numeral ∷ said) ms h = markers_writable rate e said ms h

-- ---- items

clip_of : (c d : ClipRow) → ◌≡◌ {A = ItemOf Listed} (Clip c) (Clip d) → c ≡ d
clip_of c d e = cc e

gap_of : (c d : GapRow) → ◌≡◌ {A = ItemOf Listed} (Gap c) (Gap d) → c ≡ d
gap_of c d e = cc e

clip_is : (c : ClipRow) → W.IsItem (Clip c) → W.IsClip c
clip_is c (W.clip _ d e w) = subst W.IsClip (sym (clip_of c d e)) w
clip_is c (W.gap _ g e w) = absurd (cc e)
clip_is c (W.transition _ t e w) = absurd (cc e)
clip_is c (W.stack _ s e w) = absurd (cc e)
clip_is c (W.track _ t e w) = absurd (cc e)

gap_is : (g : GapRow) → W.IsItem (Gap g) → W.IsGap g
gap_is g (W.gap _ d e w) = subst W.IsGap (sym (gap_of g d e)) w
gap_is g (W.clip _ c e w) = absurd (cc e)
gap_is g (W.transition _ t e w) = absurd (cc e)
gap_is g (W.stack _ s e w) = absurd (cc e)
gap_is g (W.track _ t e w) = absurd (cc e)

item_writable : (rate : Rate) (e : Event) (said : List Said) (x y : ItemOf Listed) → W.IsItem x → IsNotedItem rate e said x y → W.IsItem y
item_writable rate e said (Clip c) y i h =
    let w = clip_is c i in
    W.clip y _ h.2 (w.0, w.1, markers_append c.markers h.0 w.2 (markers_writable rate e said h.0 h.1), w.3)
item_writable rate e said (Gap g) y i h =
    let w = gap_is g i in
    W.gap y _ h.2 (w.0, w.1, markers_append g.markers h.0 w.2 (markers_writable rate e said h.0 h.1))
item_writable rate e said (Transition t) y i h = subst W.IsItem (sym h) i
item_writable rate e said (Stack s) y i h = subst W.IsItem (sym h) i
item_writable rate e said (Track t) y i h = subst W.IsItem (sym h) i

item_moves : (rate : Rate) (e : Event) (said : List Said) (x y : ItemOf Listed) → IsNotedItem rate e said x y → is_transition y ≡ is_transition x
item_moves rate e said (Clip c) y h = ap is_transition h.2
item_moves rate e said (Gap g) y h = ap is_transition h.2
item_moves rate e said (Transition t) y h = ap is_transition h
item_moves rate e said (Stack s) y h = ap is_transition h
item_moves rate e said (Track t) y h = ap is_transition h

-- ---- lists of items

first_is : (x y : ItemOf Listed) (xs ys : List (ItemOf Listed)) → x ∷ xs ≡ y ∷ ys → x ≡ y
first_is x y xs ys e = cc e

rest_is : (x y : ItemOf Listed) (xs ys : List (ItemOf Listed)) → x ∷ xs ≡ y ∷ ys → xs ≡ ys
rest_is x y xs ys e = cc e

parts : (x : ItemOf Listed) (xs : List (ItemOf Listed)) → W.AreItems (x ∷ xs) → W.IsItem x × W.AreItems xs
parts x xs (W.no_items _ e) = absurd (cc e)
parts x xs (W.more_items _ y ys e i r) = (subst W.IsItem (sym (first_is x y xs ys e)) i, subst W.AreItems (sym (rest_is x y xs ys e)) r)

children_writable : (list : EventList) (notes : List Note) (c : Channel) (xs ys : List (ItemOf Listed)) (start : ℤ) → AreNotedChildren list notes c start xs ys → W.AreItems xs → W.AreItems ys
children_writable list notes c [] [] start (end s) w = w
children_writable list notes c [] (y ∷ ys) start h w = elim h [ ]
children_writable list notes c (x ∷ xs) [] start h w = elim h [ ]
children_writable list notes c (x ∷ xs) (y ∷ ys) start (noted s a b us vs index e at is more) w =
    let p = parts x xs w in
    W.more_items (y ∷ ys) y ys refl (item_writable list.rate e (said_of index notes) x y p.0 is) (children_writable list notes c xs ys _ more p.1)
children_writable list notes c (x ∷ xs) (y ∷ ys) start (other s a us vs none more) w =
    let p = parts x xs w in
    W.more_items (x ∷ ys) x ys refl p.0 (children_writable list notes c xs ys _ more p.1)

children_move : (list : EventList) (notes : List Note) (c : Channel) (xs ys : List (ItemOf Listed)) (start : ℤ) → AreNotedChildren list notes c start xs ys → map is_transition ys ≡ map is_transition xs
children_move list notes c [] [] start (end s) = refl
children_move list notes c [] (y ∷ ys) start h = elim h [ ]
children_move list notes c (x ∷ xs) [] start h = elim h [ ]
children_move list notes c (x ∷ xs) (y ∷ ys) start (noted s a b us vs index e at is more) =
    ap₂ (λ t ts. t ∷ ts) (item_moves list.rate e (said_of index notes) x y is) (children_move list notes c xs ys _ more)
children_move list notes c (x ∷ xs) (y ∷ ys) start (other s a us vs none more) = ap (λ ts. is_transition x ∷ ts) (children_move list notes c xs ys _ more)

-- whether two transitions stand side by side, by which items are transitions
abbrev beside : List Bool → Bool
beside [] = false
beside (a ∷ []) = false
beside (a ∷ b ∷ l) = (a && b) || beside (b ∷ l)

beside_is : (xs : List (ItemOf Listed)) → side_by_side xs ≡ beside (map is_transition xs)
beside_is [] = refl
beside_is (x ∷ []) = refl
beside_is (x ∷ y ∷ xs) = ap (λ b. (is_transition x && is_transition y) || b) (beside_is (y ∷ xs))

any_is : (xs : List (ItemOf Listed)) → list_any is_transition xs ≡ list_any (λ b. b) (map is_transition xs)
any_is [] = refl
any_is (x ∷ xs) = ap (λ b. is_transition x || b) (any_is xs)

-- ---- tracks

track_parts : (t u : TrackOf Listed) → ◌≡◌ {A = ItemOf Listed} (Track t) (Track u) → t ≡ u
track_parts t u e = cc e

track_is : (t : TrackOf Listed) → W.IsItem (Track t) → W.IsTrack t
track_is t (W.track _ u e w) = subst W.IsTrack (sym (track_parts t u e)) w
track_is t (W.clip _ c e w) = absurd (cc e)
track_is t (W.gap _ g e w) = absurd (cc e)
track_is t (W.transition _ u e w) = absurd (cc e)
track_is t (W.stack _ s e w) = absurd (cc e)

below_writable : (list : EventList) (notes : List Note) (o : Option Channel) (xs ys : List (ItemOf Listed)) → AreNotedBelow list notes o xs ys → W.AreItems xs → W.AreItems ys
below_writable list notes None xs ys h w = subst W.AreItems (sym h) w
below_writable list notes (Some c) xs ys h w = children_writable list notes c xs ys _ h w

below_move : (list : EventList) (notes : List Note) (o : Option Channel) (xs ys : List (ItemOf Listed)) → AreNotedBelow list notes o xs ys → map is_transition ys ≡ map is_transition xs
below_move list notes None xs ys h = ap (map is_transition) h
below_move list notes (Some c) xs ys h = children_move list notes c xs ys _ h

track_writable : (t : TrackOf Listed) (ys : List (ItemOf Listed)) → W.IsTrack t → map is_transition ys ≡ map is_transition (items_of t.children) → (W.AreItems (items_of t.children) → W.AreItems ys) → W.IsTrack (record t { children = listed ys })
track_writable t ys (W.track_of _ rest effects markers beside_none items) moves f =
    W.track_of (record t { children = listed ys }) rest effects markers
    (ap side_by_side (items-listed ys) ∙ beside_is ys ∙ ap beside moves ∙ sym (beside_is (items_of t.children)) ∙ beside_none)
    (subst W.AreItems (sym (items-listed ys)) (f items))

root_writable : (list : EventList) (notes : List Note) (past : List (ItemOf Listed)) (x y : ItemOf Listed) → IsNotedRoot list notes past x y → W.IsItem x → W.IsItem y
root_writable list notes past (Clip c) y h w = subst W.IsItem (sym h) w
root_writable list notes past (Gap g) y h w = subst W.IsItem (sym h) w
root_writable list notes past (Transition t) y h w = subst W.IsItem (sym h) w
root_writable list notes past (Stack s) y h w = subst W.IsItem (sym h) w
root_writable list notes past (Track t) y h w =
    let o = channel_of past t in
    W.track y (record t { children = listed h.0 }) h.2
    (track_writable t h.0 (track_is t w) (below_move list notes o (items_of t.children) h.0 h.1) (below_writable list notes o (items_of t.children) h.0 h.1))

root_moves : (list : EventList) (notes : List Note) (past : List (ItemOf Listed)) (x y : ItemOf Listed) → IsNotedRoot list notes past x y → is_transition y ≡ is_transition x
root_moves list notes past (Clip c) y h = ap is_transition h
root_moves list notes past (Gap g) y h = ap is_transition h
root_moves list notes past (Transition t) y h = ap is_transition h
root_moves list notes past (Stack s) y h = ap is_transition h
root_moves list notes past (Track t) y h = ap is_transition h.2

roots_writable : (list : EventList) (notes : List Note) (xs past ys : List (ItemOf Listed)) → AreNotedRoots list notes past xs ys → W.AreItems xs → W.AreItems ys
roots_writable list notes [] past ys h w = subst W.AreItems (sym h) w
roots_writable list notes (x ∷ xs) past ys h w =
    let p = parts x xs w in
    W.more_items ys h.0 h.1 h.2 (root_writable list notes past x h.0 h.3 p.0) (roots_writable list notes xs (past ++ x ∷ []) h.1 h.4 p.1)

roots_move : (list : EventList) (notes : List Note) (xs past ys : List (ItemOf Listed)) → AreNotedRoots list notes past xs ys → map is_transition ys ≡ map is_transition xs
roots_move list notes [] past ys h = ap (map is_transition) h
roots_move list notes (x ∷ xs) past ys h =
    ap (map is_transition) h.2 ∙ ap₂ (λ t ts. t ∷ ts) (root_moves list notes past x h.0 h.3) (roots_move list notes xs (past ++ x ∷ []) h.1 h.4)

-- ---- timelines

stack_writable : (s : StackOf Listed) (ys : List (ItemOf Listed)) → W.IsStack s → map is_transition ys ≡ map is_transition (items_of s.children) → (W.AreItems (items_of s.children) → W.AreItems ys) → W.IsStack (record s { children = listed ys })
stack_writable s ys (W.stack_of _ rest effects markers none_of items) moves f =
    W.stack_of (record s { children = listed ys }) rest effects markers
    (ap (list_any is_transition) (items-listed ys) ∙ any_is ys ∙ ap (list_any (λ b. b)) moves ∙ sym (any_is (items_of s.children)) ∙ none_of)
    (subst W.AreItems (sym (items-listed ys)) (f items))

same_timeline : (t u : Timeline) → out-Object (ObjectOfTimeline t) ≡ Object-F.Timeline u → t ≡ u
same_timeline t u e = let f : Object-F.Timeline t ≡ Object-F.Timeline u = sym (timeline_out t) ∙ e in cc f

timeline_is : (t : Timeline) → IsObject (ObjectOfTimeline t) → W.IsTimeline t
timeline_is t (W.timeline _ u e w) = subst W.IsTimeline (sym (same_timeline t u e)) w
timeline_is t (W.collection _ c e rest items) = absurd (cc (sym (timeline_out t) ∙ e))
timeline_is t (W.item _ i e w) = absurd (cc (sym (timeline_out t) ∙ e))

pub noted_writable : (list : EventList) (notes : List Note) (t r : Timeline) → IsNoted t list notes r → IsObject (ObjectOfTimeline t) → IsObject (ObjectOfTimeline r)
noted_writable list notes t r h w =
    let i = timeline_is t w in
    let items = items_of t.tracks.children in
    let made : StackOf Listed = record t.tracks { children = listed h.roots } in
    let stack : W.IsStack made =
    stack_writable t.tracks h.roots i.1 (roots_move list notes items [] h.roots h.are) (roots_writable list notes items [] h.roots h.are) in
    W.timeline (ObjectOfTimeline r) r (timeline_out r)
    (subst (AreOthers S.Timeline) (sym (ap (λ (z : Timeline). z.rest) h.is)) i.0, subst W.IsStack (sym (ap (λ (z : Timeline). z.tracks) h.is)) stack)

-- A timeline with the notes of a list is one.
use Rattle.std.proofs.Common.{◌≡◌, ◌<◌, ◌==◌, inl, inr, nat_lt, ℕ, ℤ, pos, ◌-ℤ◌, ◌≤ℤ◌, Bool, true, false, List, [], ◌∷◌, ◌++◌, Option, Some, None, slice_get, slice_index_or, refl, sym, ap, ap₂, subst, ◌∙◌, arith}
use Rattle.std.specs.Int.{int_div_euclid}
use Rattle.std.proofs.lemmas.Int.{ints}
use Rattle.std.proofs.lemmas.Bool.Decides.{nat_tests}
use Rattle.std.proofs.lemmas.Option.{get_or_from_slice_get}
use Rattle.tick_time.specs.declared.rates.Rate.{Rate}
use Rattle.tick_time.specs.declared.spans.Span.{Span}
use Rattle.tick_time.specs.Frames.{in_ticks}
use Rattle.tick_time.specs.Rates.{frame}
use Rattle.tick_time.proofs.SameValues.{same_frames, span_built}
use Rattle.tick_time.proofs.Wholes.{count-product}
use Rattle.otio_model.specs.declared.markers.Marker.{Marker}
use Rattle.otio_model.specs.declared.markers.Marker.TheVariants.{Known}
use Rattle.otio_model.specs.declared.compositions.ItemOf.{ItemOf}
use Rattle.otio_model.specs.declared.compositions.ItemOf.TheVariants.{Clip, Gap, Transition, Stack, Track}
use Rattle.otio_model.specs.declared.compositions.Listed.{Listed}
use Rattle.otio_model.specs.declared.timelines.Timeline.{Timeline}
use Rattle.otio_model.specs.Timelines.{bare}
use Rattle.otio_model.specs.Trees.{listed}
use Rattle.edl_list.specs.declared.list.Channel.{Channel}
use Rattle.edl_list.specs.declared.list.Channel.TheVariants.{V, A, A2}
use Rattle.edl_list.specs.declared.list.Event.{Event}
use Rattle.edl_list.specs.declared.list.EventList.{EventList}
use Rattle.edl_list.specs.Formed.{AreApart, IsEvent, IsWellFormed, rank}
use Rattle.edl_list.specs.Speeds.{day_of}
use Rattle.edl_frames.specs.Carried.{channel_of}
use Rattle.edl_frames.specs.Conformed.{HasSpan, first_record}
use Rattle.edl_law.proofs.ItemLooks.{ticks_some}
use Rattle.coord.proofs.Members.{got_below, same_some}
use Rattle.note_text.specs.Noted.{AreMarkersOf, AreNotedBelow, AreNotedChildren, AreNotedRoots, IsItemAt, IsMarkerOf, IsNoted, IsNotedItem, IsNotedRoot, colors_of, end, noted, other, said_of, with_colors}
use Rattle.note_text.specs.declared.notes.Said.{Said}
use Rattle.note_text.specs.declared.notes.Said.TheVariants.{Loc, Sop, Sat}
use Rattle.note_text.specs.declared.notes.Note.{Note}

-- ---- spans

same_range : (rate : Rate) (start count : ℤ) (a b : Option Span) → HasSpan rate start count a → HasSpan rate start count b → a ≡ b
same_range rate start count a b i j =
    i.1 ∙ ap (λ s. Some s) (span_built i.0.start i.0.len j.0.start j.0.len i.0.forward j.0.forward
    (same_frames rate start i.0.start j.0.start i.2.from j.2.from) (same_frames rate count i.0.len j.0.len i.2.long j.2.long)) ∙ sym j.1

-- ---- markers

same_mark : (rate : Rate) (e : Event) (at : ℤ) (color name : List ℕ) (a b : Marker) (i : IsMarkerOf rate e at color name a) (j : IsMarkerOf rate e at color name b) → i.mark ≡ j.mark
same_mark rate e at color name a b i j =
    let m = i.metadata ∙ sym j.metadata in
    let n = i.name_is ∙ sym j.name_is in
    let s = same_range rate _ (pos 1) i.mark.marked_range j.mark.marked_range i.range j.range in
    let r = i.rest ∙ sym j.rest in
    λ k. record { metadata = m k; name = n k; marked_range = s k; rest = r k }

same_marker : (rate : Rate) (e : Event) (at : ℤ) (color name : List ℕ) (a b : Marker) → IsMarkerOf rate e at color name a → IsMarkerOf rate e at color name b → a ≡ b
same_marker rate e at color name a b i j = i.is ∙ ap (λ m. Known m) (same_mark rate e at color name a b i j) ∙ sym j.is

same_markers : (rate : Rate) (e : Event) (said : List Said) (xs ys : List Marker) → AreMarkersOf rate e said xs → AreMarkersOf rate e said ys → xs ≡ ys
same_markers rate e [] xs ys i j = i ∙ sym j
same_markers rate e (Loc at color name ∷ said) xs ys i j =
    i.2 ∙ ap₂ (λ m ms. m ∷ ms) (same_marker rate e at color name i.0 j.0 i.3 j.3) (same_markers rate e said i.1 j.1 i.4 j.4) ∙ sym j.2
same_markers rate e (Sop slope offset power ∷ said) xs ys i j = same_markers rate e said xs ys i j
same_markers rate e (Sat numeral ∷ said) xs ys i j = same_markers rate e said xs ys i j

-- ---- items

same_item : (rate : Rate) (e : Event) (said : List Said) (x y z : ItemOf Listed) → IsNotedItem rate e said x y → IsNotedItem rate e said x z → y ≡ z
same_item rate e said (Clip c) y z i j =
    i.2 ∙ ap (λ (ms : List Marker). Clip (record c { metadata = with_colors (colors_of said) c.metadata; markers = c.markers ++ ms })) (same_markers rate e said i.0 j.0 i.1 j.1) ∙ sym j.2
same_item rate e said (Gap g) y z i j =
    i.2 ∙ ap (λ (ms : List Marker). Gap (record g { metadata = with_colors (colors_of said) g.metadata; markers = g.markers ++ ms })) (same_markers rate e said i.0 j.0 i.1 j.1) ∙ sym j.2
same_item rate e said (Transition t) y z i j = i ∙ sym j
same_item rate e said (Stack s) y z i j = i ∙ sym j
same_item rate e said (Track t) y z i j = i ∙ sym j

-- ---- the event of an item

rank_of : (a b c : Channel) → (rank a == rank b) ≡ true → (rank a == rank c) ≡ true → b ≡ c
rank_of V V V e f = refl
rank_of A A A e f = refl
rank_of A2 A2 A2 e f = refl
rank_of V A c e f = absurd (cc e)
rank_of V A2 c e f = absurd (cc e)
rank_of V V A e f = absurd (cc f)
rank_of V V A2 e f = absurd (cc f)
rank_of A V c e f = absurd (cc e)
rank_of A A2 c e f = absurd (cc e)
rank_of A A V e f = absurd (cc f)
rank_of A A A2 e f = absurd (cc f)
rank_of A2 V c e f = absurd (cc e)
rank_of A2 A c e f = absurd (cc e)
rank_of A2 A2 V e f = absurd (cc f)
rank_of A2 A2 A e f = absurd (cc f)

same_ticks : (rate : Rate) (a b : ℤ) → in_ticks rate a ≡ in_ticks rate b → a ≡ b
same_ticks rate a b e =
    let n = pos (frame rate.num rate.den) in
    let some = ticks_some rate in
    let p : pos 1 ≤ℤ n = omega (arith, ints, some) in
    sym (count-product a n p) ∙ ap (λ z. int_div_euclid z n) e ∙ count-product b n p

-- two events that begin at one instant on one channel aren't apart
not_apart : (list : EventList) (c : Channel) (start : ℤ) (x : ItemOf Listed) (i j : ℕ) (d e : Event) → IsWellFormed list → IsItemAt list c start x i d → IsItemAt list c start x j e → i < j → ⊥
not_apart list c start x i j d e w a b lt =
    let at_i = get_or_from_slice_get list.events i d d a.event in
    let at_j = get_or_from_slice_get list.events j e d b.event in
    let below = got_below list.events j e b.event in
    let one : IsEvent (day_of list.rate) d = subst (IsEvent (day_of list.rate)) at_i (w.events i d (got_below list.events i d a.event)) in
    let two : IsEvent (day_of list.rate) e = subst (IsEvent (day_of list.rate)) at_j (w.events j d below) in
    let far : AreApart d e = subst (λ y. AreApart d y) at_j (subst (λ y. AreApart y (slice_index_or list.events j d)) at_i (w.apart i j d lt below)) in
    let begins : (d.rec_in -ℤ first_record list.events) ≡ (e.rec_in -ℤ first_record list.events) =
    same_ticks list.rate (d.rec_in -ℤ first_record list.events) (e.rec_in -ℤ first_record list.events) (sym a.starts ∙ b.starts) in
    let s = one.some in
    let t = two.some in
    elim (far (rank_of c d.channel e.channel a.on b.on)) [
      | inl h ↦ omega (arith, ints, begins, s, t, h)
      | inr h ↦ omega (arith, ints, begins, s, t, h)
    ]

one_place : (list : EventList) (c : Channel) (start : ℤ) (x : ItemOf Listed) (i j : ℕ) (d e : Event) → IsWellFormed list → IsItemAt list c start x i d → IsItemAt list c start x j e → i ≡ j
one_place list c start x i j d e w a b = by (nat_lt i j) (nat_lt j i) refl refl
  where
    by : (p q : Bool) → nat_lt i j ≡ p → nat_lt j i ≡ q → i ≡ j
    by true q f g = absurd (not_apart list c start x i j d e w a b (grind (arith, nat_tests, f)))
    by false true f g = absurd (not_apart list c start x j i e d w b a (grind (arith, nat_tests, g)))
    by false false f g = grind (arith, nat_tests, f, g)

-- the notes of one item
same_noted : (list : EventList) (notes : List Note) (c : Channel) (start : ℤ) (x y z : ItemOf Listed) (i j : ℕ) (d e : Event) → IsWellFormed list → IsItemAt list c start x i d → IsItemAt list c start x j e
    → IsNotedItem list.rate d (said_of i notes) x y → IsNotedItem list.rate e (said_of j notes) x z → y ≡ z
same_noted list notes c start x y z i j d e w a b g h =
    let place = one_place list c start x i j d e w a b in
    let event : d ≡ e = same_some d e (sym a.event ∙ ap (slice_get list.events) place ∙ b.event) in
    same_item list.rate e (said_of j notes) x y z
    (subst (λ k. IsNotedItem list.rate e (said_of k notes) x y) place (subst (λ f. IsNotedItem list.rate f (said_of i notes) x y) event g)) h

-- ---- children, tracks and timelines

same_children : (list : EventList) (notes : List Note) (c : Channel) (xs ys zs : List (ItemOf Listed)) (start : ℤ) → IsWellFormed list → AreNotedChildren list notes c start xs ys → AreNotedChildren list notes c start xs zs → ys ≡ zs
same_children list notes c [] [] [] start w (end s) (end t) = refl
same_children list notes c [] (y ∷ ys) zs start w g h = elim g [ ]
same_children list notes c [] [] (z ∷ zs) start w g h = elim h [ ]
same_children list notes c (x ∷ xs) [] zs start w g h = elim g [ ]
same_children list notes c (x ∷ xs) (y ∷ ys) [] start w g h = elim h [ ]
same_children list notes c (x ∷ xs) (y ∷ ys) (z ∷ zs) start w (noted s a b us vs i d at is more) (noted s' a' b' us' vs' j e at' is' more') =
    ap₂ (λ p ps. p ∷ ps) (same_noted list notes c start x y z i j d e w at at' is is') (same_children list notes c xs ys zs _ w more more')
same_children list notes c (x ∷ xs) (y ∷ ys) (z ∷ zs) start w (noted s a b us vs i d at is more) (other s' a' us' vs' none more') = absurd (none i d at)
same_children list notes c (x ∷ xs) (y ∷ ys) (z ∷ zs) start w (other s a us vs none more) (noted s' a' b' us' vs' j e at is more') = absurd (none j e at)
same_children list notes c (x ∷ xs) (y ∷ ys) (z ∷ zs) start w (other s a us vs none more) (other s' a' us' vs' none' more') =
    ap (λ ps. x ∷ ps) (same_children list notes c xs ys zs _ w more more')

same_below : (list : EventList) (notes : List Note) (o : Option Channel) (xs ys zs : List (ItemOf Listed)) → IsWellFormed list → AreNotedBelow list notes o xs ys → AreNotedBelow list notes o xs zs → ys ≡ zs
same_below list notes None xs ys zs w g h = g ∙ sym h
same_below list notes (Some c) xs ys zs w g h = same_children list notes c xs ys zs (pos 0) w g h

same_root : (list : EventList) (notes : List Note) (past : List (ItemOf Listed)) (x y z : ItemOf Listed) → IsWellFormed list → IsNotedRoot list notes past x y → IsNotedRoot list notes past x z → y ≡ z
same_root list notes past (Clip c) y z w g h = g ∙ sym h
same_root list notes past (Gap c) y z w g h = g ∙ sym h
same_root list notes past (Transition c) y z w g h = g ∙ sym h
same_root list notes past (Stack c) y z w g h = g ∙ sym h
same_root list notes past (Track t) y z w g h =
    g.2 ∙ ap (λ (l : List (ItemOf Listed)). Track (record t { children = listed l })) (same_below list notes (channel_of past t) _ g.0 h.0 w g.1 h.1) ∙ sym h.2

same_roots : (list : EventList) (notes : List Note) (xs past ys zs : List (ItemOf Listed)) → IsWellFormed list → AreNotedRoots list notes past xs ys → AreNotedRoots list notes past xs zs → ys ≡ zs
same_roots list notes [] past ys zs w g h = g ∙ sym h
same_roots list notes (x ∷ xs) past ys zs w g h =
    g.2 ∙ ap₂ (λ p ps. p ∷ ps) (same_root list notes past x g.0 h.0 w g.3 h.3) (same_roots list notes xs (past ++ x ∷ []) g.1 h.1 w g.4 h.4) ∙ sym h.2

pub one_noted : (list : EventList) (notes : List Note) (t a b : Timeline) → IsWellFormed list → IsNoted t list notes a → IsNoted t list notes b → bare a ≡ bare b
one_noted list notes t a b w g h =
    g.is ∙ ap (λ (l : List (ItemOf Listed)). bare (record t { tracks = record t.tracks { children = listed l } })) (same_roots list notes _ [] g.roots h.roots w g.are h.are) ∙ sym h.is

-- A conformed timeline has no transitions side by side and no negative offsets.
use Rattle.std.proofs.Common.{◌≡◌, refl, sym, ap, ap₂, subst, ◌∙◌, ℕ, zero, suc, ℤ, pos, ◌≤ℤ◌, ◌&&◌, ◌||◌, Bool, true, false, List, [], ◌∷◌, Option, Some, None, slice_get, arith}
use Rattle.std.specs.Prelude.{int_lt, option_and_then}
use Rattle.std.specs.List.{list_any}
use Rattle.std.proofs.lemmas.Int.{ints}
use Rattle.tick_time.specs.declared.rates.Rate.{Rate}
use Rattle.tick_time.specs.declared.times.Time.{Time}
use Rattle.otio_model.specs.declared.compositions.ItemOf.{ItemOf}
use Rattle.otio_model.specs.declared.compositions.ItemOf.TheVariants.{Track}
use Rattle.otio_model.specs.declared.compositions.Listed.{Listed}
use Rattle.otio_model.specs.declared.compositions.TrackOf.{TrackOf}
use Rattle.otio_model.specs.declared.timelines.Timeline.{Timeline}
use Rattle.otio_model.specs.Trees.{items_of, children_of, below, item_at, is_transition}
use Rattle.otio_model.specs.Misplaced.{side_by_side, is_negative, has_misplaced}
use Rattle.edl_list.specs.declared.list.Channel.{Channel}
use Rattle.edl_list.specs.declared.list.Reel.{Reel}
use Rattle.edl_list.specs.declared.list.Reel.TheVariants.{Black, Named}
use Rattle.edl_list.specs.declared.list.Side.{Side}
use Rattle.edl_list.specs.declared.list.Event.{Event}
use Rattle.edl_list.specs.declared.list.EventList.{EventList}
use Rattle.coord.specs.Soundness.{IsCalm}
use Rattle.media_rows.specs.Rows.{MediaRows}
use Rattle.edl_frames.specs.Conformed.{HasFrames, IsGap, IsItem, IsReelItem, IsTransition, IsTimelineOf, AreItems, end, gap, cut, pair, pair_with_side, AreTracks, none, used, unused}

-- ---- items without children

record IsLeaf (x : ItemOf Listed) : Type 0 where
  placed : has_misplaced x ≡ false
  childless : children_of x ≡ None

abbrev AreLeaves : List (ItemOf Listed) → Type 0
AreLeaves [] = Unit {0}
AreLeaves (x ∷ l) = IsLeaf x × AreLeaves l

opened : {A B : Type 0} (f : A → Option B) (o : Option A) (y : B) → option_and_then f o ≡ Some y
    → (x : A) × (o ≡ Some x) × (f x ≡ Some y)
opened f None y e = absurd (cc e)
opened f (Some x) y e = (x, refl, e)

leaf_below : (place : List ℕ) (x y : ItemOf Listed) → IsLeaf x → below place x ≡ Some y
    → has_misplaced y ≡ false
leaf_below [] x y leaf e = let same : x ≡ y = cc e in ap has_misplaced (sym same) ∙ leaf.placed
leaf_below (i ∷ place) x y leaf e =
    let none : below (i ∷ place) x ≡ None =
    ap (option_and_then (λ l. option_and_then (below place) (slice_get (items_of l) i)))
    leaf.childless in
    absurd (cc (sym none ∙ e))

leaf_at : (xs : List (ItemOf Listed)) (i : ℕ) (x : ItemOf Listed) → AreLeaves xs
    → slice_get xs i ≡ Some x → IsLeaf x
leaf_at [] zero x leaves e = absurd (cc e)
leaf_at [] (suc i) x leaves e = absurd (cc e)
leaf_at (y ∷ xs) zero x leaves e = let same : y ≡ x = cc e in subst IsLeaf same leaves.0
leaf_at (y ∷ xs) (suc i) x leaves e = leaf_at xs i x leaves.1 e

-- ---- the items of a track

record AreApart (l : List (ItemOf Listed)) : Type 0 where
  leaves : AreLeaves l
  apart : side_by_side l ≡ false

-- an item that is no transition and has no children
record IsPlain (x : ItemOf Listed) : Type 0 where
  leaf : IsLeaf x
  still : is_transition x ≡ false

gap_plain : (rate : Rate) (n : ℤ) (x : ItemOf Listed) → IsGap rate n x → IsPlain x
gap_plain rate n x i =
    rw i.is (record { leaf = record { placed = refl; childless = refl }; still = refl })

item_plain : (rate : Rate) (media : MediaRows) (side : Side) (n : ℤ) (x : ItemOf Listed)
    → IsItem rate media side n x → IsPlain x
item_plain rate media side n x i = by side.reel i
  where
    by : (r : Reel) → IsReelItem rate media side r n x → IsPlain x
    by Black j = gap_plain rate n x j
    by (Named reel) j =
        rw j.is (record { leaf = record { placed = refl; childless = refl }; still = refl })

not_below : (z : ℤ) → pos 0 ≤ℤ z → int_lt z (pos 0) ≡ false
not_below z h = grind (arith, ints)

not_negative : (rate : Rate) (n : ℕ) (o : Option Time) → HasFrames rate (pos n) o
    → is_negative o ≡ false
not_negative rate n o h =
    let t = h.2.ticks in
    ap is_negative h.1 ∙ not_below h.0.ticks (omega (arith, ints, t))

transition_leaf : (rate : Rate) (type : List ℕ) (frames : ℕ) (x : ItemOf Listed)
    → IsTransition rate type frames x → IsLeaf x
transition_leaf rate type frames x i = rw i.is (record {
  placed = ap₂ (λ p q. p || q) (not_negative rate 0 i.transition.in_offset i.before)
      (not_negative rate frames i.transition.out_offset i.after);
  childless = refl;
})

plain_first : (x : ItemOf Listed) (l : List (ItemOf Listed)) → IsPlain x → AreApart l
    → AreApart (x ∷ l)
plain_first x l i h = record { leaves = (i.leaf, h.leaves); apart = by l h.apart }
  where
    by : (l : List (ItemOf Listed)) → side_by_side l ≡ false → side_by_side (x ∷ l) ≡ false
    by [] g = refl
    by (y ∷ l) g = ap₂ (λ p q. (p && is_transition y) || q) i.still g

transition_first : (t x : ItemOf Listed) (l : List (ItemOf Listed)) → IsLeaf t → IsPlain x
    → AreApart (x ∷ l) → AreApart (t ∷ x ∷ l)
transition_first t x l leaf i h = record {
  leaves = (leaf, h.leaves);
  apart = ap₂ (λ p q. (is_transition t && p) || q) i.still h.apart ∙ neither (is_transition t);
}
  where
    neither : (p : Bool) → ((p && false) || false) ≡ false
    neither true = refl
    neither false = refl

items_apart : (rate : Rate) (media : MediaRows) (before : Option Event) (at : ℤ) (es : List Event)
    (items : List (ItemOf Listed)) → AreItems rate media before at es items → AreApart items
items_apart rate media before at es items (end _ _) = record { leaves = tt; apart = refl }
items_apart rate media before at es items (gap _ _ e rest x others later is_gap more) =
    plain_first x others (gap_plain rate _ x is_gap)
    (items_apart rate media before e.rec_in (e ∷ rest) others more)
items_apart rate media before at es items (cut _ _ e rest x others here is_cut item more) =
    plain_first x others (item_plain rate media e.to _ x item)
    (items_apart rate media (Some e) e.rec_out rest others more)
items_apart rate media before at es items (pair _ _ e rest p t x others here is_pair served
    transition item more) =
    let i = item_plain rate media e.to _ x item in
    transition_first t x others (transition_leaf rate p.type p.frames t transition) i
    (plain_first x others i (items_apart rate media (Some e) e.rec_out rest others more))
items_apart rate media before at es items (pair_with_side _ _ e rest p s t x others here is_pair
    served side transition item more) =
    let i = item_plain rate media e.to _ x item in
    plain_first s (t ∷ x ∷ others) (item_plain rate media p.from (pos 0) s side)
    (transition_first t x others (transition_leaf rate p.type p.frames t transition) i
    (plain_first x others i (items_apart rate media (Some e) e.rec_out rest others more)))

-- ---- the whole timeline

track_below : (place : List ℕ) (t : TrackOf Listed) (y : ItemOf Listed)
    → AreApart (items_of t.children) → below place (Track t) ≡ Some y → has_misplaced y ≡ false
track_below [] t y h e = let same : Track t ≡ y = cc e in ap has_misplaced (sym same) ∙ h.apart
track_below (i ∷ place) t y h e =
    let o = opened (below place) (slice_get (items_of t.children) i) y e in
    leaf_below place o.0 y (leaf_at (items_of t.children) i o.0 h.leaves o.1) o.2

no_transitions : (list : EventList) (media : MediaRows) (cs : List Channel)
    (xs : List (ItemOf Listed)) → AreTracks list media cs xs → list_any is_transition xs ≡ false
no_transitions list media cs xs none = refl
no_transitions list media cs xs (used c others x rest h i more) =
    ap₂ (λ p q. p || q) (ap is_transition i.is) (no_transitions list media others rest more)
no_transitions list media cs xs (unused c others rest h more) =
    no_transitions list media others rest more

tracks_below : (list : EventList) (media : MediaRows) (cs : List Channel)
    (xs : List (ItemOf Listed)) → AreTracks list media cs xs
    → (place : List ℕ) (k : ℕ) (y : ItemOf Listed)
    → option_and_then (below place) (slice_get xs k) ≡ Some y → has_misplaced y ≡ false
tracks_below list media cs xs none place zero y e = absurd (cc e)
tracks_below list media cs xs none place (suc k) y e = absurd (cc e)
tracks_below list media cs xs (used c others x rest h i more) place zero y e =
    track_below place i.track y
    (items_apart list.rate media None _ _ (items_of i.track.children) i.children)
    (ap (below place) (sym i.is) ∙ e)
tracks_below list media cs xs (used c others x rest h i more) place (suc k) y e =
    tracks_below list media others rest more place k y e
tracks_below list media cs xs (unused c others rest h more) place k y e =
    tracks_below list media others rest more place k y e

pub timeline_calm : (list : EventList) (media : MediaRows) (t : Timeline)
    → IsTimelineOf list media t → IsCalm t
timeline_calm list media t i = record {
  root = no_transitions list media _ (items_of t.tracks.children) i.tracks;
  items = by;
}
  where
    by : (place : List ℕ) (x : ItemOf Listed) → item_at place t.tracks.children ≡ Some x
        → has_misplaced x ≡ false
    by [] x e = absurd (cc e)
    by (k ∷ place) x e =
        tracks_below list media _ (items_of t.tracks.children) i.tracks place k x e

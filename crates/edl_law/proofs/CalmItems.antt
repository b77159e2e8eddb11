-- Items of a track in which no two transitions stand side by side and no offset is negative.
use Rattle.std.proofs.Common.{◌≡◌, refl, ap, ◌∙◌, ℕ, zero, suc, pos, ◌≤ℤ◌, ◌&&◌, ◌||◌, subst, Bool, true, false, List, [], ◌∷◌, Option, Some, None, slice_get, arith}
use Rattle.std.specs.Prelude.{option_and_then}
use Rattle.std.proofs.lemmas.Int.{ints}
use Rattle.limits.proofs.IntegerTests.{int_lt-false}
use Rattle.tick_time.specs.declared.times.Time.{Time}
use Rattle.otio_model.specs.declared.compositions.ItemOf.{ItemOf}
use Rattle.otio_model.specs.declared.compositions.ItemOf.TheVariants.{Clip, Gap, Transition, Stack, Track}
use Rattle.otio_model.specs.declared.compositions.Listed.{Listed}
use Rattle.otio_model.specs.declared.compositions.TrackOf.{TrackOf}
use Rattle.otio_model.specs.declared.timelines.Timeline.{Timeline}
use Rattle.otio_model.specs.Trees.{items_of, below, is_transition}
use Rattle.otio_model.specs.Overlaps.{offset_of}
use Rattle.otio_model.specs.Misplaced.{side_by_side, is_negative, has_misplaced}
use Rattle.coord.specs.Looks.{Overlap}
use Rattle.coord.specs.Sights.{overlap_of}
use Rattle.coord.specs.Soundness.{IsCalm}

-- the list doesn't begin with a transition
abbrev pub IsNoCross : List (ItemOf Listed) → Type 0
IsNoCross [] = Unit {0}
IsNoCross (x ∷ l) = overlap_of x ≡ None

-- no offset of an overlap is negative, and no transition stands behind it
abbrev pub IsAlone : List (ItemOf Listed) → Overlap → Type 0
IsAlone l o = (pos 0 ≤ℤ o.before) × (pos 0 ≤ℤ o.after) × IsNoCross l

abbrev pub AreCalm : List (ItemOf Listed) → Type 0
AreCalm [] = Unit {0}
AreCalm (x ∷ l) = ((o : Overlap) → overlap_of x ≡ Some o → IsAlone l o) × AreCalm l

neither : (p q : Bool) → (p || q) ≡ false → (p ≡ false) × (q ≡ false)
neither true q e = absurd (cc e)
neither false q e = (refl, e)

offset_low : (o : Option Time) → is_negative o ≡ false → pos 0 ≤ℤ offset_of o
offset_low None e = omega (arith, ints)
offset_low (Some t) e = int_lt-false t.ticks (pos 0) e

no_overlap : (x : ItemOf Listed) → is_transition x ≡ false → overlap_of x ≡ None
no_overlap (Clip c) e = refl
no_overlap (Gap g) e = refl
no_overlap (Transition t) e = absurd (cc e)
no_overlap (Stack s) e = refl
no_overlap (Track t) e = refl

-- behind a transition no other one stands
none_behind : (x : ItemOf Listed) (l : List (ItemOf Listed)) → is_transition x ≡ true
    → side_by_side (x ∷ l) ≡ false → IsNoCross l
none_behind x [] e h = tt
none_behind x (y ∷ l) e h =
    no_overlap y (neither (is_transition y) (side_by_side (y ∷ l)) (passes (is_transition x) e h)).0
  where
    passes : (p : Bool) → p ≡ true
        → ((p && is_transition y) || side_by_side (y ∷ l)) ≡ false
        → (is_transition y || side_by_side (y ∷ l)) ≡ false
    passes true f g = g
    passes false f g = absurd (cc f)

apart_behind : (x : ItemOf Listed) (l : List (ItemOf Listed)) → side_by_side (x ∷ l) ≡ false
    → side_by_side l ≡ false
apart_behind x [] h = refl
apart_behind x (y ∷ l) h =
    (neither (is_transition x && is_transition y) (side_by_side (y ∷ l)) h).1

alone : (x : ItemOf Listed) (l : List (ItemOf Listed)) → has_misplaced x ≡ false
    → side_by_side (x ∷ l) ≡ false → (o : Overlap) → overlap_of x ≡ Some o → IsAlone l o
alone (Clip c) l m h o e = absurd (cc e)
alone (Gap g) l m h o e = absurd (cc e)
alone (Transition t) l m h o e =
    let offsets = neither (is_negative t.in_offset) (is_negative t.out_offset) m in
    let same : record {
      kind = t.transition_type;
      before = offset_of t.in_offset;
      after = offset_of t.out_offset;
    } ≡ o = cc e in
    subst (IsAlone l) same (
      offset_low t.in_offset offsets.0,
      offset_low t.out_offset offsets.1,
      none_behind (Transition t) l refl h,
    )
alone (Stack s) l m h o e = absurd (cc e)
alone (Track t) l m h o e = absurd (cc e)

calm_items : (l : List (ItemOf Listed)) → side_by_side l ≡ false
    → ((i : ℕ) (x : ItemOf Listed) → slice_get l i ≡ Some x → has_misplaced x ≡ false)
    → AreCalm l
calm_items [] h each = tt
calm_items (x ∷ l) h each = (
  alone x l (each zero x refl) h,
  calm_items l (apart_behind x l h) (λ i y e. each (suc i) y e),
)

pub calm_tracks : (t : Timeline) → IsCalm t → (k : ℕ) (track : TrackOf Listed)
    → slice_get (items_of t.tracks.children) k ≡ Some (Track track)
    → AreCalm (items_of track.children)
calm_tracks t calm k track here =
    calm_items (items_of track.children)
    (calm.items (k ∷ []) (Track track) (ap (option_and_then (below [])) here))
    (λ i x e. calm.items (k ∷ i ∷ []) x
    (ap (option_and_then (below (i ∷ []))) here ∙ ap (option_and_then (below [])) e))

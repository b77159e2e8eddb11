-- The part of a writable timeline between two record frames is writable.
use Rattle.std.proofs.Common.{◌≡◌, refl, sym, subst, ap, ◌∙◌, ℤ, pos, ◌-ℤ◌, ◌<ℤ◌, ◌≤ℤ◌, ◌&&◌}
use Rattle.std.proofs.Common.{Bool, true, false, Option, Some, None, cond, List, [], ◌∷◌, arith}
use Rattle.std.proofs.Common.{◌*ℤ◌}
use Rattle.std.specs.Prelude.{int_lt, int_le, option_and_then}
use Rattle.std.proofs.lemmas.Int.{ints, by_lt_z}
use Rattle.tick_time.specs.declared.rates.Rate.{Rate}
use Rattle.otio_model.specs.declared.compositions.ItemOf.{ItemOf}
use Rattle.otio_model.specs.declared.compositions.ItemOf.TheVariants.{Clip, Gap, Transition, Stack}
use Rattle.otio_model.specs.declared.compositions.ItemOf.TheVariants.{Track}
use Rattle.otio_model.specs.declared.compositions.Listed.{Listed}
use Rattle.otio_model.specs.declared.compositions.TrackOf.{TrackOf}
use Rattle.otio_model.specs.declared.timelines.Timeline.{Timeline}
use Rattle.otio_model.specs.Lengths.{trimmed_start}
use Rattle.otio_model.specs.Misplaced.{side_by_side}
use Rattle.otio_model.specs.Trees.{is_transition, listed}
use Rattle.otio_model.proofs.Views.{items-listed}
use Rattle.coord.specs.Programs.{start_frame}
use Rattle.coord.specs.Soundness.{IsSound}
use Rattle.edits.specs.Children.{Child, all_made, ticks}
use Rattle.edits.specs.Cuts.{back, olds, strip}
use Rattle.edits.specs.Finest.{in_range}
use Rattle.edits.specs.After.{frame_of, rate_of}
use Rattle.edits.specs.Edges.{added}
use Rattle.limits.proofs.IntegerTests.{above-int_le, above-int_lt, below-int_le, below-int_lt}
use Rattle.edits_law.proofs.Apart.{Apart, apart_items, back_apart, items_apart}
use Rattle.edits_law.proofs.Apart.{strip_apart}
use Rattle.edits_law.proofs.MadeParts.{made_apart}
use Rattle.flat.specs.Blocked.{IsFree}
use Rattle.flat.specs.Roots.{items_in, roots, with_roots}
use Rattle.flat.specs.Windowed.{IsWindowed, WindowBlocks, from_start, front_alone, is_window}
use Rattle.flat.specs.Windowed.{stripped, window_of, window_track, window_tracks, with_items}
use Rattle.flat_law.proofs.Fair.{has_fair}
use Rattle.std.proofs.lemmas.Bool.{and_parts}
use Rattle.coord.proofs.Members.{same_some}
use Rattle.edits_law.proofs.Made.{first_of_two}
use Rattle.flat_law.proofs.Windowed.{mapped}
use Rattle.flat_law.proofs.WindowSound.{window_sound}
use Rattle.object_law.specs.Writable as W
use Rattle.object_law.specs.Writable.{AreItems, IsItem, IsTimeline}
use Rattle.writable_law.proofs.WritableChildren.{AreWritable, AreWritableChildren}
use Rattle.writable_law.proofs.WritableChildren.{all_items, each_item, old_writable}
use Rattle.writable_law.proofs.WritableChildren.{ranged_writable}
use Rattle.writable_law.proofs.MadeChildren.{made_are}
use Rattle.writable_law.proofs.MadeChildren.{back_is}
use Rattle.writable_law.proofs.MadeChildren.{stripped as strip_is}
use Rattle.flat_law.proofs.Things.{AreThings, IsThing, inside_apart, inside_items}
use Rattle.flat_law.proofs.Things.{roots_are, same_bare}
use Rattle.flat_law.proofs.Things.{sound_with, with_roots_is}

-- ---- what starts before an instant

front_writable : (l : List (ItemOf Listed)) (t : ℤ) → AreWritable l
    → AreWritableChildren (front_alone l t)
front_writable [] t h = tt
front_writable (x ∷ l) t h = by_lt_z (pos 0) t
    (λ p. let e = below-int_lt (pos 0) t p in by_lt_z t (ticks x)
    (λ q. let f = above-int_le (ticks x) t q in
    rw (e, f) (ranged_writable x (trimmed_start x) t h.0, tt))
    (λ q. let f = below-int_le (ticks x) t q in
    rw (e, f) (old_writable x h.0, front_writable l (t -ℤ ticks x) h.1)))
    (λ p. let e = above-int_lt (pos 0) t p in rw e tt)

front_apart : (p : Bool) (l : List (ItemOf Listed)) (t : ℤ) → Apart p (olds l)
    → Apart p (front_alone l t)
front_apart p [] t k = tt
front_apart p (x ∷ l) t k = by_lt_z (pos 0) t
    (λ h. let e = below-int_lt (pos 0) t h in by_lt_z t (ticks x)
    (λ j. let f = above-int_le (ticks x) t j in rw (e, f) (k.0, tt))
    (λ j. let f = below-int_le (ticks x) t j in
    rw (e, f) (k.0, front_apart (is_transition x) l (t -ℤ ticks x) k.1)))
    (λ h. let e = above-int_lt (pos 0) t h in rw e tt)

-- ---- one track

-- writable items, of which no two transitions stand side by side
pub record AreCalmItems (l : List (ItemOf Listed)) : Type 0 where
  pub writable : AreWritable l
  pub apart : Apart false (olds l)

pub made_calm : (r : Rate) (c : List Child) (l : List (ItemOf Listed)) → AreWritableChildren c
    → Apart false c → all_made r c ≡ Some l → AreCalmItems l
made_calm r c l h k e = record {
  writable = made_are r c l e h;
  apart = made_apart false r c l e k;
}

window_calm : (r : Rate) (a b : ℤ) (s m : List (ItemOf Listed)) → AreCalmItems s
    → window_of r a b s ≡ Some m → AreCalmItems m
window_calm r a b s m h e = by (int_le (added s) a) e
  where
    cut : (o : Option (List (ItemOf Listed))) → all_made r (front_alone s b) ≡ o
        → option_and_then (λ n. all_made r (back n a)) o ≡ Some m → AreCalmItems m
    cut None f g = absurd (cc g)
    cut (Some n) f g =
        let k = made_calm r (front_alone s b) n (front_writable s b h.writable)
        (front_apart false s b h.apart) f in
        made_calm r (back n a) m (back_is n a k.writable) (back_apart false n a k.apart) g

    by : (c : Bool) → cond c (Some [])
        (option_and_then (λ n. all_made r (back n a)) (all_made r (front_alone s b))) ≡ Some m
        → AreCalmItems m
    by true f = subst AreCalmItems (same_some [] m f) (record { writable = tt; apart = tt })
    by false f = cut (all_made r (front_alone s b)) refl f

stripped_calm : (l : List (ItemOf Listed)) (a b : ℤ) → AreCalmItems l
    → AreCalmItems (stripped l a b)
stripped_calm l a b h = record {
  writable = strip_is (strip l a a) b b (strip_is l a a h.writable);
  apart = strip_apart false (strip l a a) b b (strip_apart false l a a h.apart);
}

pub inside_calm : (x : ItemOf Listed) → IsItem x → AreCalmItems (items_in x)
inside_calm x h = record {
  writable = each_item (items_in x) (inside_items x h);
  apart = apart_items (items_in x) (inside_apart x h);
}

pub track_with : (t : TrackOf Listed) (enabled : Bool) (m : List (ItemOf Listed)) → W.IsTrack t
    → AreCalmItems m → W.IsTrack (record t { enabled = enabled; children = listed m })
track_with t enabled m (W.track_of _ o effects markers apart items) k =
    W.track_of (record t { enabled = enabled; children = listed m }) o effects markers
    (ap side_by_side (items-listed m) ∙ items_apart false m k.apart)
    (subst AreItems (sym (items-listed m)) (all_items m k.writable))

items_with : (x : ItemOf Listed) (m : List (ItemOf Listed)) → IsItem x → AreCalmItems m
    → IsItem (with_items x m)
items_with x m (W.clip _ c e h) k =
    W.clip (with_items x m) c (ap (λ y. with_items y m) e) h
items_with x m (W.gap _ g e h) k = W.gap (with_items x m) g (ap (λ y. with_items y m) e) h
items_with x m (W.transition _ t e h) k =
    W.transition (with_items x m) t (ap (λ y. with_items y m) e) h
items_with x m (W.stack _ s e h) k = W.stack (with_items x m) s (ap (λ y. with_items y m) e) h
items_with x m (W.track _ t e h) k =
    W.track (with_items x m) (record t { children = listed m }) (ap (λ y. with_items y m) e)
    (track_with t t.enabled m h k)

with_items-keeps_sort : (x : ItemOf Listed) (m : List (ItemOf Listed))
    → is_transition (with_items x m) ≡ is_transition x
with_items-keeps_sort (Clip c) m = refl
with_items-keeps_sort (Gap c) m = refl
with_items-keeps_sort (Transition c) m = refl
with_items-keeps_sort (Stack c) m = refl
with_items-keeps_sort (Track c) m = refl

track_thing : (r : Rate) (a b : ℤ) (x y : ItemOf Listed) → IsThing x
    → window_track r a b x ≡ Some y → IsThing y
track_thing r a b x y h e =
    let d = mapped x y (window_of r a b (stripped (items_in x) a b)) e in
    let k = window_calm r a b (stripped (items_in x) a b) d.0
    (stripped_calm (items_in x) a b (inside_calm x h.writable)) d.1 in
    subst IsThing d.2 (record {
      writable = items_with x d.0 h.writable k;
      thing = with_items-keeps_sort x d.0 ∙ h.thing;
    })

-- ---- the timeline

tracks_things : (r : Rate) (a b : ℤ) (l m : List (ItemOf Listed)) → AreThings l
    → window_tracks r a b l ≡ Some m → AreThings m
tracks_things r a b [] m h e = subst AreThings (same_some [] m e) tt
tracks_things r a b (x ∷ l) m h e =
    let d = first_of_two (window_track r a b x) (window_tracks r a b l) m e in
    subst AreThings (sym d.4) (
      track_thing r a b x d.0 h.0 d.2,
      tracks_things r a b l d.1 h.1 d.3,
    )

pub windowed_is : (t r : Timeline) (a b : ℤ) → IsTimeline t → IsWindowed t a b r → IsTimeline r
windowed_is t r a b h w =
    same_bare (record (with_roots w.tracks t) { global_start_time = Some w.start }) r w.is
    (with_roots_is w.tracks t h (tracks_things (rate_of t) (from_start t a) (from_start t b)
    (roots t) w.tracks (roots_are t h) w.are))

pub windowed_sound : (t r : Timeline) (a b : ℤ) → IsSound t → IsTimeline t
    → is_window t a b ≡ true → IsFree (WindowBlocks (roots t) (from_start t a) (from_start t b))
    → IsWindowed t a b r → IsSound r
windowed_sound t r a b s h e f w =
    let p = and_parts (int_lt a b && int_le (start_frame t) a)
    (in_range (a *ℤ frame_of t) && in_range (b *ℤ frame_of t)) e in
    let q = and_parts (int_lt a b) (int_le (start_frame t) a) p.0 in
    sound_with r (window_sound t r a b s.faultless (has_fair t s.calm) (lt_is a b q.0)
    (le_is (start_frame t) a q.1) f w) (windowed_is t r a b h w)
  where
    lt_is : (x y : ℤ) → int_lt x y ≡ true → x <ℤ y
    lt_is x y g = grind (arith, ints)

    le_is : (x y : ℤ) → int_le x y ≡ true → x ≤ℤ y
    le_is x y g = grind (arith, ints)

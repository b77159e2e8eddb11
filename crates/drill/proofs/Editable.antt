-- The timeline that a drill begins with can be edited.
use Rattle.std.proofs.Common.{◌≡◌, refl, sym, ap, subst, ◌∙◌, ℕ, zero, suc, ◌^◌, ◌<◌, ◌≤◌, ℤ, pos, Bool, false, List, [], ◌∷◌, Option, Some, None, arith, length, slice_get}
use Rattle.std.specs.Prelude.{◌||◌, ◌&&◌, ◌*ℤ◌, option_and_then}
use Rattle.std.specs.List.{list_any}
use Rattle.tick_time.specs.Rates.{frame}
use Rattle.tick_time.specs.Times.{IsWhole}
use Rattle.tick_time.specs.declared.rates.Rate.{Rate}
use Rattle.otio_model.specs.declared.compositions.ItemOf.{ItemOf}
use Rattle.otio_model.specs.declared.compositions.ItemOf.TheVariants.{Clip, Gap, Transition, Stack, Track}
use Rattle.otio_model.specs.declared.compositions.Listed.{Listed}
use Rattle.otio_model.specs.declared.timelines.Timeline.{Timeline}
use Rattle.otio_model.specs.Counts.{count, count_of, counts_by}
use Rattle.otio_model.specs.Falls.{count-listed}
use Rattle.otio_model.specs.Misplaced.{has_misplaced, side_by_side}
use Rattle.otio_model.specs.Trees.{below, children_of, is_transition, items_of, listed}
use Rattle.otio_model.proofs.Views.{items-listed}
use Rattle.coord.specs.Soundness.{AreCalm, IsSound}
use Rattle.coord.proofs.Members.{one_counts}
use Rattle.coord.proofs.SpareLemmas.{sound_bare}
use Rattle.tick_time.specs.FixedRates.{rate_24}
use Rattle.edit_script.specs.Keeping.{IsEditable}
use Rattle.drill.specs.Starting.{IsStart, start_clips, timeline_with, video_track}
use Rattle.drill.proofs.PlainClips.{IsPlain}
use Rattle.drill.proofs.SoundStart.{ArePlainClips, in_ticks_is, items_plain, most, plain_at, root_sound, ticks}

-- ---- transitions

pairs_step : (a b c : Bool) → a ≡ false → c ≡ false → ((a && b) || c) ≡ false
pairs_step a b c e f = rw (e, f) refl

no_pairs : (xs : List (ItemOf Listed)) → ArePlainClips xs → side_by_side xs ≡ false
no_pairs [] h = refl
no_pairs (x ∷ []) h = refl
no_pairs (x ∷ y ∷ xs) h =
    pairs_step (is_transition x) (is_transition y) (side_by_side (y ∷ xs)) h.0.other
    (no_pairs (y ∷ xs) h.1)

calm_in : (z y : ItemOf Listed) (place : List ℕ) → IsPlain most z → below place z ≡ Some y
    → has_misplaced y ≡ false
calm_in z y [] p e =
    let same : z ≡ y = cc e in subst (λ x. has_misplaced x ≡ false) same p.calm
calm_in z y (i ∷ place) p e =
    let none : None ≡ Some y = sym (ap (option_and_then (λ l. option_and_then (below place)
    (slice_get (items_of l) i))) p.alone) ∙ e in
    absurd (cc none)

through : (xs : List (ItemOf Listed)) (i : ℕ) (y : ItemOf Listed) (place : List ℕ)
    (o : Option (ItemOf Listed)) → ArePlainClips xs → slice_get xs i ≡ o
    → option_and_then (below place) o ≡ Some y → has_misplaced y ≡ false
through xs i y place None h e f = absurd (let g : None ≡ Some y = f in cc g)
through xs i y place (Some z) h e f = calm_in z y place (plain_at xs i z h e) f

calm_track : (xs : List (ItemOf Listed)) (y : ItemOf Listed) (place : List ℕ) → ArePlainClips xs
    → below place (video_track xs) ≡ Some y → has_misplaced y ≡ false
calm_track xs y [] h e =
    let same : video_track xs ≡ y = cc e in
    subst (λ x. has_misplaced x ≡ false) same (ap side_by_side (items-listed xs) ∙ no_pairs xs h)
calm_track xs y (i ∷ place) h e =
    through xs i y place (slice_get xs i) h refl
    (ap (λ l. option_and_then (below place) (slice_get l i)) (sym (items-listed xs)) ∙ e)

calm_from : (xs : List (ItemOf Listed)) (i : ℕ) (y : ItemOf Listed) (place : List ℕ)
    → ArePlainClips xs
    → option_and_then (below place) (slice_get (video_track xs ∷ []) i) ≡ Some y
    → has_misplaced y ≡ false
calm_from xs zero y place h e = calm_track xs y place h e
calm_from xs (suc i) y place h e = absurd (let g : None ≡ Some y = e in cc g)

calm_root : (xs : List (ItemOf Listed)) → ArePlainClips xs → AreCalm (listed (video_track xs ∷ []))
calm_root xs h [] y e = absurd (cc e)
calm_root xs h (i ∷ place) y e =
    calm_from xs i y place h (ap (λ l. option_and_then (below place) (slice_get l i))
    (sym (items-listed (video_track xs ∷ []))) ∙ e)

-- ---- counts

count_one : (x : ItemOf Listed) → children_of x ≡ None → count_of x ≡ 1
count_one (Clip c) e = refl
count_one (Gap g) e = refl
count_one (Transition t) e = refl
count_one (Stack s) e = absurd (let g : Some s.children ≡ None = e in cc g)
count_one (Track t) e = absurd (let g : Some t.children ≡ None = e in cc g)

count_all : (xs : List (ItemOf Listed)) → ArePlainClips xs → counts_by count xs ≡ length xs
count_all [] h = refl
count_all (x ∷ xs) h = omega (arith, count_one x h.0.alone, count_all xs h.1)

few_root : (xs : List (ItemOf Listed)) → ArePlainClips xs → length xs ≤ 1000
    → count (listed (video_track xs ∷ [])) < 2 ^ 32
few_root xs h few =
    omega (arith, few, one_counts (video_track xs), count-listed xs, count_all xs h)

-- ---- the timeline

on_frame : (r : Rate) (z : ℤ) → r ≡ rate_24 → z ≡ pos 86400 *ℤ pos (frame rate_24.num rate_24.den)
    → IsWhole z (frame r.num r.den)
on_frame r z e h =
    subst (λ (q : Rate). IsWhole z (frame q.num q.den)) (sym e)
    (subst (λ y. IsWhole y ticks) (sym (in_ticks_is rate_24 z 86400 refl h)) refl)

pub start_editable : (x : ℕ) (t : Timeline) → IsStart x t → IsEditable t
unfolding start_clips
start_editable x t s =
    let p = items_plain 0 40 x s.items s.drawn in
    let few : length s.items ≤ 1000 = omega (arith, p.1) in
    let whole = timeline_with s.start s.items in
    let sound : IsSound whole = record {
      faultless = record {
        start = on_frame s.start.rate s.start.ticks s.begins.kept s.begins.ticks;
        items = root_sound s.items p.0 few;
      };
      calm = record {
        root = ap (list_any is_transition) (items-listed (video_track s.items ∷ []));
        items = calm_root s.items p.0;
      };
    } in
    record {
      sound = sound_bare whole t (sym s.is) sound;
      few =
          subst (λ (u : Timeline). count u.tracks.children < 2 ^ 32) (sym s.is)
          (few_root s.items p.0 few);
    }

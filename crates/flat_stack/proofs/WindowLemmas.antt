-- A window of a timeline.
use Rattle.std.proofs.Common.{◌≡◌, sym, subst, ap, ◌∙◌, ℕ, ℤ, List, Some}
use Rattle.tick_time.specs.declared.rates.Rate.{Rate}
use Rattle.tick_time.specs.declared.times.Time.{Time}
use Rattle.otio_model.specs.declared.compositions.ItemOf.{ItemOf}
use Rattle.otio_model.specs.declared.compositions.Listed.{Listed}
use Rattle.otio_model.specs.declared.timelines.Timeline.{Timeline}
use Rattle.otio_model.specs.Trees.{listed}
use Rattle.otio_model.specs.Timelines.{bare}
use Rattle.edits.specs.After.{rate_of}
use Rattle.flat.specs.declared.faults.Cause.{Cause}
use Rattle.flat.specs.declared.faults.Cause.TheVariants as C
use Rattle.flat.specs.declared.faults.FlatFault.{FlatFault}
use Rattle.flat.specs.declared.faults.FlatFault.TheVariants as F
use Rattle.flat.specs.Blocked.{IsFree, IsFirst}
use Rattle.flat.specs.Roots.{roots}
use Rattle.flat.specs.Windowed.{from_start, window_tracks, WindowBlocks}
use Rattle.flat.specs.Answers.{WindowNames, Windows}
use Rattle.flat_stack.specs.declared.fault_places.Spot.{Spot}
use Rattle.flat_stack.specs.Ends.{IsZone, IsCutTo}
use Rattle.flat_stack.specs.Spots.{IsSaid, spot_place}

pub cut_is : (t : Timeline) (start : Time) (from to : ℤ) (r : Rate) (l : List (ItemOf Listed))
    (c : Listed) → r ≡ rate_of t → window_tracks r from to (roots t) ≡ Some l → c ≡ listed l
    → IsCutTo t start from to
    (record t { global_start_time = Some start; tracks = record t.tracks { children = c } })
cut_is t start from to r l c e w f = record {
  tracks = l;
  are = ap (λ (q : Rate). window_tracks q from to (roots t)) (sym e) ∙ w;
  is = ap (λ (m : Listed).
      bare (record t { global_start_time = Some start; tracks = record t.tracks { children = m } })) f;
}

no_crossing : (l : List (ItemOf Listed)) (a b : ℤ) (place : List ℕ) (c : Cause)
    → c ≡ C.Crossing → WindowBlocks l a b place c → ⊥
no_crossing l a b place _ e (WindowBlocks.not_plain _ k x g h i) = cc e
no_crossing l a b place _ e (WindowBlocks.phase _ k i x y g h m n) = cc e

first_at : (t : Timeline) (a b : ℤ) (start : Time) (from to : ℤ) (s : Spot) (place : List ℕ)
    (c : Cause) → IsZone t a b start from to
    → IsFirst (WindowBlocks (roots t) from to) (spot_place s) s.cause
    → place ≡ spot_place s → s.cause ≡ c
    → IsFirst (WindowBlocks (roots t) (from_start t a) (from_start t b)) place c
first_at t a b start from to s place c z h e f =
    subst (λ (d : Cause). IsFirst (WindowBlocks (roots t) (from_start t a) (from_start t b)) place d) f
    (subst (λ p. IsFirst (WindowBlocks (roots t) (from_start t a) (from_start t b)) p s.cause) (sym e)
    (subst (λ y. IsFirst (WindowBlocks (roots t) (from_start t a) y) (spot_place s) s.cause) z.to_is
    (subst (λ y. IsFirst (WindowBlocks (roots t) y to) (spot_place s) s.cause) z.from_is h)))

pub window_named : (t : Timeline) (a b : ℤ) (start : Time) (from to : ℤ) (s : Spot) (f : FlatFault)
    → IsZone t a b start from to
    → IsFirst (WindowBlocks (roots t) from to) (spot_place s) s.cause → IsSaid s f
    → WindowNames t a b f
window_named t a b start from to s (F.Nested place) z h k =
    (z.window, first_at t a b start from to s place C.Nested z h k.0 k.1)
window_named t a b start from to s (F.Transition place) z h k =
    no_crossing (roots t) from to (spot_place s) s.cause k.1 h.there
window_named t a b start from to s (F.Phase place) z h k =
    (z.window, first_at t a b start from to s place C.Phase z h k.0 k.1)
window_named t a b start from to s F.Range z h k = absurd k
window_named t a b start from to s F.Memory z h k = tt

pub window_done : (t : Timeline) (a b : ℤ) (start : Time) (from to : ℤ) (r : Timeline)
    → IsZone t a b start from to → IsFree (WindowBlocks (roots t) from to)
    → IsCutTo t start from to r → Windows t a b r
window_done t a b start from to r z free cut = record {
  range = z.window;
  free = subst (λ y. IsFree (WindowBlocks (roots t) (from_start t a) y)) z.to_is
      (subst (λ y. IsFree (WindowBlocks (roots t) y to)) z.from_is free);
  is = record {
    tracks = cut.tracks;
    are = ap (λ y. window_tracks (rate_of t) (from_start t a) y (roots t)) (sym z.to_is)
        ∙ ap (λ y. window_tracks (rate_of t) y to (roots t)) (sym z.from_is) ∙ cut.are;
    start = start;
    ticks = z.ticks;
    rate = z.rate;
    is = cut.is;
  };
}

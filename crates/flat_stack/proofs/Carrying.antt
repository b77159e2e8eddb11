-- Each step leaves a timeline with which something can be done.
use Rattle.std.proofs.Common.{◌≡◌, sym, subst, ◌≤◌, ◌<◌, ◌^◌, Bool, true, false, All, List, [], ◌∷◌, Option, Some, None, arith}
use Rattle.std.proofs.lemmas.List.Elements.{All-head, All-tail}
use Rattle.limits.specs.Limits.{most_items}
use Rattle.otio_model.specs.declared.timelines.Timeline.{Timeline}
use Rattle.otio_model.specs.Timelines.{bare}
use Rattle.otio_model.specs.Counts.{count}
use Rattle.object_law.specs.Writable.{IsTimeline}
use Rattle.coord.specs.Soundness.{IsSound, IsFaultless}
use Rattle.coord.proofs.SpareLemmas.{sound_bare}
use Rattle.command_words.specs.declared.tools.TrackKind.{TrackKind}
use Rattle.command_words.specs.declared.tools.Window.{Window}
use Rattle.flat.specs.Answers.{AreSound, Joins}
use Rattle.flat.specs.Piled.{IsPiled}
use Rattle.flat.specs.Roots.{is_of}
use Rattle.writable_law.proofs.CalmTimelines.{timeline_calm}
use Rattle.flat_law.specs.Inputs.{AreTimelines}
use Rattle.flat_law.proofs.FlattenedTimelines.{flattened_is, flattened_sound}
use Rattle.flat_law.proofs.JoinedTimelines.{joined_is}
use Rattle.flat_law.proofs.OtherTimelines.{kept_is, kept_sound, piled_is, piled_sound}
use Rattle.flat_law.proofs.StraightTimelines.{straight_is, straightened_sound}
use Rattle.flat_law.proofs.WindowedTimelines.{windowed_is, windowed_sound}
use Rattle.flat_stack.specs.Gathered.{IsStack}
use Rattle.flat_stack.specs.Ready.{IsReady}
use Rattle.flat_stack.specs.Shaped.{kind_name, IsOnly, IsStraightened, IsTrimmed, IsFlat}
use Rattle.flat_stack.proofs.CountedSteps.{count_bare, only_count, straight_count, windowed_count}

-- ---- all inputs

pub all_sound : (l : List Timeline) → All IsReady l → AreSound l
all_sound [] a = tt
all_sound (t ∷ l) a =
    let one = All-head IsReady t l a in (one.sound, all_sound l (All-tail IsReady t l a))

pub all_written : (l : List Timeline) → All IsReady l → AreTimelines l
all_written [] a = tt
all_written (t ∷ l) a =
    let one = All-head IsReady t l a in (one.written, all_written l (All-tail IsReady t l a))

-- ---- one

ready_bare : (t r : Timeline) → bare r ≡ bare t → IsReady t → IsReady r
ready_bare t r e h = record {
  sound = sound_bare t r (sym e) h.sound;
  written = subst IsTimeline (sym e) h.written;
  few = omega (arith, h.few, count_bare r t e);
}

pub only_ready : (kind : Option TrackKind) (t r : Timeline) → IsReady t → IsOnly kind t r
    → IsReady r
only_ready None t r h e = ready_bare t r e h
only_ready (Some kind) t r h e = record {
  sound = kept_sound t r (is_of (kind_name kind)) h.sound h.written e;
  written = kept_is t r (is_of (kind_name kind)) h.written e;
  few = omega (arith, h.few, only_count (is_of (kind_name kind)) t r e);
}

pub straight_ready : (asked : Bool) (t r : Timeline) → IsReady t → IsStraightened asked t r
    → IsReady r
straight_ready false t r h e = ready_bare t r e h
straight_ready true t r h e = record {
  sound = straightened_sound t r h.sound h.written e;
  written = straight_is t r h.written e;
  few = omega (arith, h.few, straight_count t r e);
}

pub trim_ready : (asked : Option Window) (t r : Timeline) → IsReady t → IsTrimmed asked t r
    → IsReady r
trim_ready None t r h e = ready_bare t r e h
trim_ready (Some window) t r h e =
    let w = e.3 in record {
      sound = windowed_sound t r e.0 e.1 h.sound h.written w.range w.free w.is;
      written = windowed_is t r e.0 e.1 h.written w.is;
      few = omega (arith, h.few, windowed_count t r e.0 e.1 w.is);
    }

flat_sound : (kind : TrackKind) (keep : Bool) (t r : Timeline) → IsReady t
    → IsFlat kind keep t r → IsSound r
flat_sound kind keep t r h e =
    flattened_sound t r (kind_name kind) keep h.sound h.written e.free e.is

flat_written : (kind : TrackKind) (keep : Bool) (t r : Timeline) → IsReady t
    → IsFlat kind keep t r → IsTimeline r
flat_written kind keep t r h e = flattened_is t r (kind_name kind) keep h.written e.is

-- ---- several

pub concat_written : (inputs : List Timeline) (r : Timeline) → All IsReady inputs
    → Joins inputs r → IsTimeline r
concat_written inputs r a j = joined_is inputs r (all_written inputs a) j

pub concat_ready : (r q : Timeline) → IsTimeline r → count r.tracks.children ≤ most_items
    → IsFaultless r → q ≡ r → IsReady q
concat_ready r q w few s e = subst IsReady (sym e) (record {
  sound = record { faultless = s; calm = timeline_calm r w };
  written = w;
  few = omega (arith, few);
})

stack_sound : (t r : Timeline) (more l : List Timeline) → All IsReady l → l ≡ t ∷ more
    → IsPiled t more r → IsSound r
stack_sound t r more l a e p =
    let s : AreSound (t ∷ more) = subst AreSound e (all_sound l a) in
    let w : AreTimelines (t ∷ more) = subst AreTimelines e (all_written l a) in
    piled_sound t r more s.0 s.1 w.0 w.1 p

stack_written : (t r : Timeline) (more l : List Timeline) → All IsReady l → l ≡ t ∷ more
    → IsPiled t more r → IsTimeline r
stack_written t r more l a e p =
    let w : AreTimelines (t ∷ more) = subst AreTimelines e (all_written l a) in
    piled_is t r more w.0 w.1 p

pub stack_ready : (inputs : List Timeline) (r : Timeline) → All IsReady inputs
    → IsStack inputs r → IsReady r
stack_ready inputs r a k =
    let p = k.0 in record {
      sound = stack_sound p.0 r p.1 inputs a p.2 p.3;
      written = stack_written p.0 r p.1 inputs a p.2 p.3;
      few = omega (arith, k.1);
    }

pub flat_ready : (kind : TrackKind) (keep : Bool) (t r q : Timeline) → IsReady t
    → IsFlat kind keep t r → q ≡ r → count q.tracks.children < 2 ^ 32 → IsReady q
flat_ready kind keep t r q h e same few = record {
  sound = subst IsSound (sym same) (flat_sound kind keep t r h e);
  written = subst IsTimeline (sym same) (flat_written kind keep t r h e);
  few = few;
}

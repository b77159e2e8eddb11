-- Piled timelines are writable, and a timeline with some of its root children.
use Rattle.std.proofs.Common.{◌≡◌, sym, Bool, List, [], ◌∷◌, ◌++◌}
use Rattle.std.specs.Prelude.{filter, flat_map}
use Rattle.otio_model.specs.declared.compositions.ItemOf.{ItemOf}
use Rattle.otio_model.specs.declared.compositions.Listed.{Listed}
use Rattle.otio_model.specs.declared.timelines.Timeline.{Timeline}
use Rattle.otio_model.specs.Timelines.{bare}
use Rattle.coord.specs.Soundness.{IsSound}
use Rattle.coord.proofs.SpareLemmas.{faultless_bare}
use Rattle.edits_law.proofs.Splice.{cases}
use Rattle.flat.specs.Answers.{AreSound}
use Rattle.flat.specs.Piled.{IsPiled}
use Rattle.flat.specs.Roots.{roots, with_roots}
use Rattle.flat_law.proofs.OthersSound.{pile_sound}
use Rattle.flat_law.proofs.WindowKept.{AllFaultless}
use Rattle.flat_law.proofs.WindowSound.{listed_sound, root_sound}
use Rattle.object_law.specs.Writable.{IsTimeline}
use Rattle.flat_law.specs.Inputs.{AreTimelines}
use Rattle.flat_law.proofs.Things.{AreThings, roots_are, same_bare, sound_with}
use Rattle.flat_law.proofs.Things.{things_filter, things_join, with_roots_is}

-- ---- piled

all_roots : (l : List Timeline) → AreTimelines l → AreThings (flat_map roots l)
all_roots [] h = tt
all_roots (t ∷ l) h =
    things_join (roots t) (flat_map roots l) (roots_are t h.0) (all_roots l h.1)

pub piled_is : (t r : Timeline) (more : List Timeline) → IsTimeline t → AreTimelines more
    → IsPiled t more r → IsTimeline r
piled_is t r more h k e =
    let all = roots t ++ flat_map roots more in
    same_bare (with_roots all t) r e (with_roots_is all t h
    (things_join (roots t) (flat_map roots more) (roots_are t h) (all_roots more k)))

pub piled_sound : (t r : Timeline) (more : List Timeline) → IsSound t → AreSound more
    → IsTimeline t → AreTimelines more → IsPiled t more r → IsSound r
piled_sound t r more s m h k e =
    sound_with r (pile_sound t r more s.faultless m e) (piled_is t r more h k e)

-- ---- some of the root children

pub kept_is : (t r : Timeline) (keeps : ItemOf Listed → Bool) → IsTimeline t
    → bare r ≡ bare (with_roots (filter keeps (roots t)) t) → IsTimeline r
kept_is t r keeps h e =
    let l = filter keeps (roots t) in
    same_bare (with_roots l t) r e
    (with_roots_is l t h (things_filter keeps (roots t) (roots_are t h)))

faultless_filter : (keeps : ItemOf Listed → Bool) (l : List (ItemOf Listed)) → AllFaultless l
    → AllFaultless (filter keeps l)
faultless_filter keeps [] h = tt
faultless_filter keeps (x ∷ l) h = cases (keeps x)
    (λ e. rw e (h.0, faultless_filter keeps l h.1))
    (λ e. rw e (faultless_filter keeps l h.1))

pub kept_sound : (t r : Timeline) (keeps : ItemOf Listed → Bool) → IsSound t → IsTimeline t
    → bare r ≡ bare (with_roots (filter keeps (roots t)) t) → IsSound r
kept_sound t r keeps s h e =
    let all = root_sound t s.faultless in
    let start = s.faultless.start in
    sound_with r (faultless_bare (with_roots (filter keeps (roots t)) t) r (sym e) (record {
      start = start;
      items = listed_sound (filter keeps (roots t)) (faultless_filter keeps (roots t) all);
    })) (kept_is t r keeps h e)

-- What timelines show and which are sound doesn't depend on the memory that they keep to spare.
use Rattle.std.proofs.Common.{◌≡◌, sym, ap, subst, ℕ, ℤ, List, false}
use Rattle.std.specs.List.{list_any}
use Rattle.otio_model.specs.declared.timelines.Timeline.{Timeline}
use Rattle.otio_model.specs.Timelines.{bare}
use Rattle.otio_model.specs.Trees.{items_of, is_transition}
use Rattle.coord.specs.declared.faults.ItemFault.{ItemFault}
use Rattle.coord.specs.declared.faults.ItemFault.TheVariants.{NoLength, Speed, Long}
use Rattle.coord.specs.declared.faults.CoordFault.{CoordFault}
use Rattle.coord.specs.declared.faults.CoordFault.TheVariants as F
use Rattle.coord.specs.Programs.{program, record_rate, start_frame}
use Rattle.coord.specs.Soundness.{IsSound, IsFaultless, IsFaultOf, AreCalm, HasFirst, StartsOnFrame, AreFaultless}

pub program_bare : (a b : Timeline) (k : ℕ) (n : ℤ) → bare a ≡ bare b → program a k n ≡ program b k n
program_bare a b k n e = ap (λ (t : Timeline). program t k n) e

pub rate_bare : (a b : Timeline) → bare a ≡ bare b → record_rate a ≡ record_rate b
rate_bare a b e = ap record_rate e

pub start_bare : (a b : Timeline) → bare a ≡ bare b → start_frame a ≡ start_frame b
start_bare a b e = ap start_frame e

starts_bare : (a b : Timeline) → bare a ≡ bare b → StartsOnFrame a → StartsOnFrame b
starts_bare a b e h = subst StartsOnFrame e h

pub faultless_bare : (a b : Timeline) → bare a ≡ bare b → IsFaultless a → IsFaultless b
faultless_bare a b e s = record {
  start = starts_bare a b e s.start;
  items = subst (λ (t : Timeline). AreFaultless t.tracks.children) e s.items;
}

pub sound_bare : (a b : Timeline) → bare a ≡ bare b → IsSound a → IsSound b
sound_bare a b e s = record {
  faultless = faultless_bare a b e s.faultless;
  calm = record {
    root = subst (λ (t : Timeline). list_any is_transition (items_of t.tracks.children) ≡ false)
        e s.calm.root;
    items = subst (λ (t : Timeline). AreCalm t.tracks.children) e s.calm.items;
  };
}

first_bare : (a b : Timeline) (place : List ℕ) (fault : ItemFault) → bare a ≡ bare b → HasFirst a place fault → HasFirst b place fault
first_bare a b place fault e h = subst (λ (t : Timeline). HasFirst t place fault) e h

pub fault_bare : (a b : Timeline) (f : CoordFault) → bare a ≡ bare b → IsFaultOf a f → IsFaultOf b f
fault_bare a b F.StartOffFrame e h = λ s. h (starts_bare b a (sym e) s)
fault_bare a b (F.NoLength place) e h = first_bare a b place NoLength e h
fault_bare a b (F.Speed place) e h = first_bare a b place Speed e h
fault_bare a b (F.Long place) e h = first_bare a b place Long e h
fault_bare a b F.Memory e h =
    (starts_bare a b e h.0, λ s. h.1 (subst (λ (t : Timeline). AreFaultless t.tracks.children) (sym e) s))

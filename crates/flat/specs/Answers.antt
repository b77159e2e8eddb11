-- What the flat calls answer.
use Rattle.std.specs.Prelude.{◌≡◌, ℕ, zero, suc, ℤ, Bool, true, false, List, [], ◌∷◌}
use Rattle.otio_model.specs.declared.timelines.Timeline.{Timeline}
use Rattle.coord.specs.Soundness.{IsSound}
use Rattle.flat.specs.declared.faults.Cause.{Cause}
use Rattle.flat.specs.declared.faults.Cause.TheVariants as C
use Rattle.flat.specs.declared.faults.FlatFault.{FlatFault}
use Rattle.flat.specs.declared.faults.FlatFault.TheVariants as F
use Rattle.flat.specs.declared.faults.FlatAt.{FlatAt}
use Rattle.flat.specs.Roots.{roots}
use Rattle.flat.specs.Blocked.{Blocks, IsFree, IsFirst}
use Rattle.flat.specs.Windowed.{from_start, is_window, WindowBlocks, IsWindowed}
use Rattle.flat.specs.Joined.{JoinBlocks, IsJoined}
use Rattle.flat.specs.Flattened.{IsFlattened}

-- the fault names the first place at which something is wrong; want of memory may come at any time
abbrev pub Names : (List ℕ → Cause → Type 0) → FlatFault → Type 0
Names has (F.Nested place) = IsFirst has place C.Nested
Names has (F.Transition place) = IsFirst has place C.Crossing
Names has (F.Phase place) = IsFirst has place C.Phase
Names has F.Range = ⊥
Names has F.Memory = Unit {0}

-- ---- flatten

pub record Flattens (t : Timeline) (kind : List ℕ) (keep : Bool) (r : Timeline) : Type 0 where
  pub free : IsFree (Blocks kind (roots t))
  pub is : IsFlattened t kind keep r

-- ---- window

pub record Windows (t : Timeline) (a b : ℤ) (r : Timeline) : Type 0 where
  pub range : is_window t a b ≡ true
  pub free : IsFree (WindowBlocks (roots t) (from_start t a) (from_start t b))
  pub is : IsWindowed t a b r

abbrev pub WindowNames : Timeline → ℤ → ℤ → FlatFault → Type 0
WindowNames t a b (F.Nested place) = (is_window t a b ≡ true)
    × IsFirst (WindowBlocks (roots t) (from_start t a) (from_start t b)) place C.Nested
WindowNames t a b (F.Transition place) = ⊥
WindowNames t a b (F.Phase place) = (is_window t a b ≡ true)
    × IsFirst (WindowBlocks (roots t) (from_start t a) (from_start t b)) place C.Phase
WindowNames t a b F.Range = is_window t a b ≡ false
WindowNames t a b F.Memory = Unit {0}

-- ---- join

-- the inputs from one on can be joined
abbrev pub AreFree : Bool → List Timeline → Type 0
AreFree is_first [] = Unit {0}
AreFree is_first (t ∷ []) = IsFree (JoinBlocks is_first true (roots t))
AreFree is_first (t ∷ (m ∷ more)) = IsFree (JoinBlocks is_first false (roots t))
    × AreFree false (m ∷ more)

-- there is an input, and the inputs joined are r
pub data Joins : List Timeline → Timeline → Type 0 where
  joins : (t : Timeline) (more l : List Timeline) (r : Timeline) → l ≡ t ∷ more → AreFree true l
      → IsJoined t more r → Joins l r

-- the fault is the first of the first input that has one
abbrev pub JoinNames : Bool → List Timeline → ℕ → FlatFault → Type 0
JoinNames is_first [] i f = ⊥
JoinNames is_first (t ∷ []) zero f = Names (JoinBlocks is_first true (roots t)) f
JoinNames is_first (t ∷ []) (suc i) f = ⊥
JoinNames is_first (t ∷ (m ∷ more)) zero f = Names (JoinBlocks is_first false (roots t)) f
JoinNames is_first (t ∷ (m ∷ more)) (suc i) f = IsFree (JoinBlocks is_first false (roots t))
    × JoinNames false (m ∷ more) i f

-- want of memory tells no input
abbrev pub JoinRefused : List Timeline → FlatAt → Type 0
JoinRefused l at = told at.fault
  where
    told : FlatFault → Type 0
    told (F.Nested place) = JoinNames true l at.input (F.Nested place)
    told (F.Transition place) = JoinNames true l at.input (F.Transition place)
    told (F.Phase place) = JoinNames true l at.input (F.Phase place)
    told F.Range = ⊥
    told F.Memory = Unit {0}

abbrev pub AreSound : List Timeline → Type 0
AreSound [] = Unit {0}
AreSound (t ∷ more) = IsSound t × AreSound more

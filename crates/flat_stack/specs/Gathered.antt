-- Timelines that become one.
use Rattle.std.specs.Prelude.{◌≡◌, ◌≢◌, ℕ, ◌+◌, ◌<◌, ◌≤◌, List, [], ◌∷◌, map, Option, Some, None}
use Rattle.limits.specs.Limits.{most_items}
use Rattle.otio_model.specs.declared.timelines.Timeline.{Timeline}
use Rattle.otio_model.specs.Timelines.{bare}
use Rattle.otio_model.specs.Counts.{count}
use Rattle.coord.specs.declared.faults.CoordFault.{CoordFault}
use Rattle.coord.specs.declared.faults.CoordFault.TheVariants as coord
use Rattle.coord.specs.Soundness.{IsFaultless, IsFaultOf}
use Rattle.flat.specs.declared.faults.FlatAt.{FlatAt}
use Rattle.flat.specs.declared.faults.FlatFault.TheVariants as flat
use Rattle.flat.specs.Answers.{Joins, JoinRefused}
use Rattle.flat.specs.Piled.{IsPiled}
use Rattle.command_words.specs.declared.tools.Joining.{Joining}
use Rattle.command_words.specs.declared.tools.Joining.TheVariants.{Concat, Stack}
use Rattle.flat_stack.specs.declared.step_faults.ToolFault.{ToolFault}
use Rattle.flat_stack.specs.declared.step_faults.ToolFault.TheVariants.{At, Items, Unsound}
use Rattle.flat_stack.specs.Chains.{Then, Stops}

-- no more items than one object tree may have, and more than that
abbrev pub IsFew : Timeline → Type 0
IsFew t = count t.tracks.children ≤ most_items

abbrev pub IsMany : Timeline → Type 0
IsMany t = most_items < count t.tracks.children

-- ---- one after another

-- the inputs joined, without too many items
abbrev pub IsConcat : List Timeline → Timeline → Type 0
IsConcat inputs r = Joins inputs r × IsFew r

-- the first input that can't be joined, or else too many items
pub data IsConcatFault (inputs : List Timeline) (fault : ToolFault) : Type 0 where
  unjoined : (why : FlatAt) → why.fault ≢ flat.Memory → JoinRefused inputs why
      → fault ≡ At why.input why.fault → IsConcatFault inputs fault
  many : (r : Timeline) → Joins inputs r → IsMany r → fault ≡ Items → IsConcatFault inputs fault

-- a timeline without a fault, and the first fault of another one
abbrev pub IsChecked : Timeline → Timeline → Type 0
IsChecked t r = (bare r ≡ bare t) × IsFaultless t

abbrev pub IsCheckFault : Timeline → ToolFault → Type 0
IsCheckFault t fault =
    (why : CoordFault) × (why ≢ coord.Memory) × IsFaultOf t why × (fault ≡ Unsound why)

-- ---- above each other

-- there is an input, and the inputs piled are r
abbrev pub Piles : List Timeline → Timeline → Type 0
Piles inputs r = (t : Timeline) × (more : List Timeline) × (inputs ≡ t ∷ more) × IsPiled t more r

-- without too many items
abbrev pub IsStack : List Timeline → Timeline → Type 0
IsStack inputs r = Piles inputs r × IsFew r

abbrev pub IsStackFault : List Timeline → ToolFault → Type 0
IsStackFault inputs fault = (r : Timeline) × Piles inputs r × IsMany r × (fault ≡ Items)

-- how many items there are together
abbrev pub items_in : List Timeline → ℕ
items_in [] = 0
items_in (t ∷ l) = count t.tracks.children + items_in l

-- ---- as one

-- The inputs as one timeline: one after another, which has to be sound; above each other; or the
-- one that there is.
abbrev pub IsGathered : Option Joining → List Timeline → Timeline → Type 0
IsGathered None inputs r = map bare inputs ≡ bare r ∷ []
IsGathered (Some Concat) inputs r = Then IsConcat IsChecked inputs r
IsGathered (Some Stack) inputs r = IsStack inputs r

abbrev pub IsUngathered : Option Joining → List Timeline → ToolFault → Type 0
IsUngathered None inputs fault = ⊥
IsUngathered (Some Concat) inputs fault = Stops IsConcat IsConcatFault IsCheckFault inputs fault
IsUngathered (Some Stack) inputs fault = IsStackFault inputs fault

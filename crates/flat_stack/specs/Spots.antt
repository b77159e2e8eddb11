-- Places at which something is wrong, as the code finds them.
use Rattle.std.specs.Prelude.{◌≡◌, ℕ, ◌<◌, ◌^◌, List, [], ◌∷◌, Option, Some, None}
use Rattle.flat.specs.declared.faults.Cause.{Cause}
use Rattle.flat.specs.declared.faults.Cause.TheVariants as C
use Rattle.flat.specs.declared.faults.FlatFault.{FlatFault}
use Rattle.flat.specs.declared.faults.FlatFault.TheVariants as F
use Rattle.flat_stack.specs.declared.fault_places.Spot.{Spot}

-- the place below a root child: of itself, or of one of its children
abbrev pub inner_place : Option ℕ → List ℕ
inner_place None = []
inner_place (Some i) = i ∷ []

abbrev pub spot_place : Spot → List ℕ
spot_place s = s.track ∷ inner_place s.child

-- a child's index that can stand in a place
abbrev pub IsNearChild : Option ℕ → Type 0
IsNearChild None = Unit {0}
IsNearChild (Some i) = i < 2 ^ 32

-- indexes that can stand in a place
pub record IsNear (s : Spot) : Type 0 where
  pub track : s.track < 2 ^ 32
  pub child : IsNearChild s.child

-- the fault tells of the spot; want of memory may come at any time
abbrev pub IsSaid : Spot → FlatFault → Type 0
IsSaid s (F.Nested place) = (place ≡ spot_place s) × (s.cause ≡ C.Nested)
IsSaid s (F.Transition place) = (place ≡ spot_place s) × (s.cause ≡ C.Crossing)
IsSaid s (F.Phase place) = (place ≡ spot_place s) × (s.cause ≡ C.Phase)
IsSaid s F.Range = ⊥
IsSaid s F.Memory = Unit {0}

-- what is wrong below a root child
abbrev pub Under : (List ℕ → Cause → Type 0) → ℕ → List ℕ → Cause → Type 0
Under has k place c = has (k ∷ place) c

-- the place stands before all below the child of that index
abbrev pub StartsBelow : ℕ → List ℕ → Type 0
StartsBelow n [] = Unit {0}
StartsBelow n (i ∷ place) = i < n

-- nothing is wrong before the child of that index
abbrev pub IsFreeTo : (List ℕ → Cause → Type 0) → ℕ → Type 0
IsFreeTo has n = (place : List ℕ) (c : Cause) → has place c → StartsBelow n place → ⊥

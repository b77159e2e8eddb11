-- The first place at which something is wrong, and the earlier of two.
use Rattle.std.specs.Prelude.{◌==◌, ℕ, nat_lt, ◌&&◌, ◌||◌, Bool, true, false, cond, List, Option, Some, None}
use Rattle.flat.specs.declared.faults.Cause.{Cause}
use Rattle.flat.specs.Blocked.{IsFree, IsFirst}
use Rattle.flat_stack.specs.declared.fault_places.Spot.{Spot}
use Rattle.flat_stack.specs.Spots.{spot_place}

-- the first place at which something is wrong, or none where nothing is
abbrev pub IsSought : (List ℕ → Cause → Type 0) → Option Spot → Type 0
IsSought has None = IsFree has
IsSought has (Some s) = IsFirst has (spot_place s) s.cause

-- a root child stands before its children, and these in their order
abbrev pub child_before : Option ℕ → Option ℕ → Bool
child_before None None = false
child_before None (Some j) = true
child_before (Some i) None = false
child_before (Some i) (Some j) = nat_lt i j

-- one spot stands before another in document order
abbrev pub is_before : Spot → Spot → Bool
is_before s t = nat_lt s.track t.track || (s.track == t.track && child_before s.child t.child)

-- the earlier of two, where there are any
abbrev pub earlier : Option Spot → Option Spot → Option Spot
earlier None o = o
earlier (Some s) None = Some s
earlier (Some s) (Some t) = Some (cond (is_before s t) s t)

-- Runs as stretches of their groups; no public clause cites these words.
use Rattle.std.specs.Prelude.{◌≡◌, ℤ, ◌-ℤ◌, ◌<◌, List, [], ◌∷◌, Some, length, slice_get}
use Rattle.pull_list.specs.Pulled.{Stretch}
use Rattle.pull_list.specs.Used.{ClipGroup}
use Rattle.pull_list.specs.declared.runs.Run.{Run}

-- the run's group is one of these
abbrev pub IsKnown : List ClipGroup → Run → Type 0
IsKnown groups r = r.group < length groups

-- the numbers of the run, and its group
pub record IsStretchOf (groups : List ClipGroup) (r : Run) (s : Stretch) : Type 0 where
  pub at : slice_get groups r.group ≡ Some s.group
  pub first : s.first ≡ r.first
  pub count : s.count ≡ r.past -ℤ r.first

-- one for each run, in their order
abbrev pub AreStretches : List ClipGroup → List Run → List Stretch → Type 0
AreStretches groups [] [] = Unit {0}
AreStretches groups [] (s ∷ ss) = ⊥
AreStretches groups (r ∷ rs) [] = ⊥
AreStretches groups (r ∷ rs) (s ∷ ss) = IsStretchOf groups r s × AreStretches groups rs ss

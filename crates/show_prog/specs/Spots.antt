-- The clips of a tree with their places.
use Rattle.std.specs.Prelude.{ℕ, ◌+◌, List, [], ◌∷◌, ◌++◌, map}
use Rattle.otio_model.specs.declared.compositions.Clip.{Clip as ClipRow}
use Rattle.otio_model.specs.declared.compositions.ItemOf.{ItemOf}
use Rattle.otio_model.specs.declared.compositions.ItemOf.TheVariants.{Clip, Gap, Transition, Stack}
use Rattle.otio_model.specs.declared.compositions.ItemOf.TheVariants.{Track}
use Rattle.otio_model.specs.declared.compositions.Listed.{Listed, fold-Listed}
use Rattle.otio_model.specs.declared.compositions.Listed.TheOpen.{Listed-F}

-- a clip, and the indexes that lead to it
pub record Spot : Type 0 where
  pub place : List ℕ
  pub clip : ClipRow

-- a spot seen from further up, where these indexes lead to what it was seen from
abbrev pub from_place : List ℕ → Spot → Spot
from_place place s = record { place = place ++ s.place; clip = s.clip }

-- spots below the child of an index, seen from one level up
abbrev pub below_index : ℕ → List Spot → List Spot
below_index i spots = map (from_place (i ∷ [])) spots

-- the clips of an item, seen from it: itself, else those below it, where the function gives those
-- of its children
abbrev pub spots_by : {C : Type 0} → (C → List Spot) → ItemOf C → List Spot
spots_by f (Clip c) = record { place = []; clip = c } ∷ []
spots_by f (Gap g) = []
spots_by f (Transition t) = []
spots_by f (Stack s) = f s.children
spots_by f (Track t) = f t.children

-- the clips of a list whose first item has this index, in document order
abbrev pub spots_from : {C : Type 0} → (C → List Spot) → ℕ → List (ItemOf C) → List Spot
spots_from f i [] = []
spots_from f i (x ∷ xs) = below_index i (spots_by f x) ++ spots_from f (i + 1) xs

abbrev pub spots_step : Listed-F (List Spot) → List Spot
spots_step l = spots_from (λ spots. spots) 0 l.list

-- the clips among children and below them, in document order
abbrev pub spots : Listed → List Spot
spots = fold-Listed (List Spot) spots_step

-- the clips of an item, itself or those below it
abbrev pub spots_of : ItemOf Listed → List Spot
spots_of = spots_by spots

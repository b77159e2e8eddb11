-- Joined tracks that are planned: their children still stand in the inputs.
use Rattle.std.specs.Prelude.{◌≡◌, ℕ, List, [], ◌∷◌, ◌++◌, map, Option, Some, None, slice_get, option_and_then}
use Rattle.std.specs.declared.alloc.Global.{Global}
use Rattle.std.specs.declared.vec.Vec.{Vec}
use Rattle.otio_model.specs.declared.compositions.ItemOf.{ItemOf}
use Rattle.otio_model.specs.declared.compositions.Listed.{Listed}
use Rattle.otio_model.specs.declared.timelines.Timeline.{Timeline}
use Rattle.otio_model.specs.Timelines.{bare}
use Rattle.otio_model.specs.Trees.{children_of}
use Rattle.flat.specs.Joined.{joined_with}
use Rattle.flat.specs.Roots.{items_in, roots, with_roots}
use Rattle.flat_stack.specs.declared.planned_tracks.PlannedTrack.{PlannedTrack}
use Rattle.flat_stack.specs.declared.planned_tracks.Portion.{Portion}
use Rattle.flat_stack.specs.declared.planned_tracks.Portion.TheVariants.{Moved, Made}
use Rattle.flat_stack.specs.Inputs.{IsWithin}

-- a root child of an input
abbrev pub root_at : List Timeline → ℕ → ℕ → Option (ItemOf Listed)
root_at inputs i c = option_and_then (λ (t : Timeline). slice_get (roots t) c) (slice_get inputs i)

-- the children of a track; none where there is none
abbrev pub items_or : Option (ItemOf Listed) → List (ItemOf Listed)
items_or None = []
items_or (Some x) = items_in x

-- the item of a number, which has these children
pub record HasChildren (l : List (ItemOf Listed)) (n : ℕ) (c : Listed) : Type 0 where
  pub item : ItemOf Listed
  pub there : slice_get l n ≡ Some item
  pub are : children_of item ≡ Some c

-- what a portion has: the children of a root child of an input, or an item that is made
abbrev pub portion_items : List Timeline → Portion → List (ItemOf Listed)
portion_items inputs (Moved i c) = items_or (root_at inputs i c)
portion_items inputs (Made x) = x ∷ []

abbrev pub portions_items : List Timeline → List Portion → List (ItemOf Listed)
portions_items inputs [] = []
portions_items inputs (p ∷ l) = portion_items inputs p ++ portions_items inputs l

-- the track that is planned
abbrev pub planned_track : List Timeline → PlannedTrack → ItemOf Listed
planned_track inputs p = joined_with p.track (portions_items inputs p.portions.items)

-- the first input with the tracks that are planned
abbrev pub IsPlanned : List Timeline → List PlannedTrack → Timeline → Type 0
IsPlanned inputs plans r = (t : Timeline) (more : List Timeline) → inputs ≡ t ∷ more
    → bare r ≡ bare (with_roots (map (planned_track inputs) plans) t)

-- tracks by which the inputs are joined; none where the joined timeline has more than so many items
abbrev pub ArePlans : List Timeline → ℕ → Option (Vec PlannedTrack Global) → Type 0
ArePlans inputs most None = IsWithin inputs most None
ArePlans inputs most (Some plans) =
    (r : Timeline) → IsPlanned inputs plans.items r → IsWithin inputs most (Some r)

-- ---- root children that are taken one after another

-- items that are all there
abbrev pub all_there : List (ItemOf Listed) → List (Option (ItemOf Listed))
all_there [] = []
all_there (x ∷ l) = Some x ∷ all_there l

-- what is still there
abbrev pub flat : Option (Option (ItemOf Listed)) → Option (ItemOf Listed)
flat None = None
flat (Some o) = o

abbrev pub left_at : List (Vec (Option (ItemOf Listed)) Global) → ℕ → ℕ → Option (ItemOf Listed)
left_at all i c =
    option_and_then (λ (v : Vec (Option (ItemOf Listed)) Global). flat (slice_get v.items c))
    (slice_get all i)

-- each that is still there is as it was
abbrev pub AreRoots : List (Vec (Option (ItemOf Listed)) Global) → List Timeline → Type 0
AreRoots all inputs = (i c : ℕ) (x : ItemOf Listed) → left_at all i c ≡ Some x
    → root_at inputs i c ≡ Some x

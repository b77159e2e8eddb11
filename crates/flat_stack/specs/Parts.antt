-- The parts of a flat track, as the code knows them.
use Rattle.std.specs.Prelude.{◌≡◌, ℕ, pos, ◌+ℤ◌, ◌≤ℤ◌, ◌<ℤ◌, true, List, ◌++◌, Some, map, slice_get}
use Rattle.tick_time.specs.declared.rates.Rate.{Rate}
use Rattle.otio_model.specs.declared.compositions.ItemOf.{ItemOf}
use Rattle.otio_model.specs.declared.compositions.Listed.{Listed}
use Rattle.edits.specs.Children.{ticks}
use Rattle.flat.specs.Roots.{is_track, items_in}
use Rattle.flat.specs.Pieces.{giver, longest, AreLongest, piece_items}
use Rattle.flat_stack.specs.declared.stretches.Given.{Given}
use Rattle.flat_stack.specs.declared.same_clips.Part.{Part}
use Rattle.flat_stack.specs.Runs.{piece_of}

-- the child of a track among root children
pub record IsChildOf (l : List (ItemOf Listed)) (track child : ℕ) (item : ItemOf Listed) : Type 0
  where
    pub root : ItemOf Listed
    pub there : slice_get l track ≡ Some root
    pub is : is_track root ≡ true
    pub inner : slice_get (items_in root) child ≡ Some item

-- the part lies in the time of its clip
pub record IsGivenBy (l : List (ItemOf Listed)) (p : Part) (g : Given) : Type 0 where
  pub item : ItemOf Listed
  pub at : IsChildOf l g.track g.child item
  pub low : pos 0 ≤ℤ g.start
  pub from : g.start ≤ℤ p.from
  pub to : p.to ≤ℤ (g.start +ℤ ticks item)

-- the part is no longer than a track, and has a clip or none
pub record IsPart (l : List (ItemOf Listed)) (p : Part) : Type 0 where
  pub low : pos 0 ≤ℤ p.from
  pub wide : p.from <ℤ p.to
  pub high : p.to ≤ℤ pos 705600000000000000000000
  pub given : (g : Given) → p.given ≡ Some g → IsGivenBy l p g

abbrev pub AreParts : List (ItemOf Listed) → List Part → Type 0
AreParts l parts = (i : ℕ) (p : Part) → slice_get parts i ≡ Some p → IsPart l p

-- these are all parts of the flat track
abbrev pub AreAll : List ℕ → List (ItemOf Listed) → List Part → Type 0
AreAll kind l parts =
    AreLongest (giver 0 kind l) (longest kind l) (pos 0) (map (piece_of l) parts)

-- the items of the parts that are left stand behind those that are made
abbrev pub AreMade : Rate → List (ItemOf Listed) → List (ItemOf Listed) → List Part → List Part
    → Type 0
AreMade r l done rest parts =
    (m : List (ItemOf Listed)) → piece_items r (map (piece_of l) rest) ≡ Some m
    → piece_items r (map (piece_of l) parts) ≡ Some (done ++ m)

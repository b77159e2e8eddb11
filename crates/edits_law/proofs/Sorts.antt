-- Items are transitions, which take no time, or hold time.
use Rattle.std.proofs.Common.{◌≡◌, refl, ℤ, pos, ◌-ℤ◌, true, false, Some, None, List, ◌∷◌}
use Rattle.otio_model.specs.declared.compositions.ItemOf.{ItemOf}
use Rattle.otio_model.specs.declared.compositions.ItemOf.TheVariants.{Clip, Gap, Transition, Stack, Track}
use Rattle.otio_model.specs.declared.compositions.Listed.{Listed}
use Rattle.otio_model.specs.Trees.{is_transition}
use Rattle.coord.specs.Looks.{Overlap}
use Rattle.coord.specs.Sights.{overlap_of}
use Rattle.edits.specs.Children.{ticks}
use Rattle.edits.specs.Cuts.{strip}

-- a transition, which takes no time, or an item
pub data Sort (x : ItemOf Listed) : Type 0 where
  point : (o : Overlap) → is_transition x ≡ true → overlap_of x ≡ Some o → ticks x ≡ pos 0 → Sort x
  thing : is_transition x ≡ false → overlap_of x ≡ None → Sort x

pub sort : (x : ItemOf Listed) → Sort x
sort (Clip c) = thing refl refl
sort (Gap g) = thing refl refl
sort (Transition t) = point _ refl refl refl
sort (Stack k) = thing refl refl
sort (Track t) = thing refl refl

pub strip_thing : (x : ItemOf Listed) (l : List (ItemOf Listed)) (a b : ℤ) → overlap_of x ≡ None → strip (x ∷ l) a b ≡ x ∷ strip l (a -ℤ ticks x) (b -ℤ ticks x)
strip_thing x l a b e = rw e

-- Words of the walk that looks for the first fault; no public clause cites them.
use Rattle.std.specs.Prelude.{◌≡◌, ℕ, ◌<◌, List, ◌∷◌, Some, None, slice_get}
use Rattle.otio_model.specs.declared.compositions.ItemOf.{ItemOf}
use Rattle.otio_model.specs.declared.compositions.Listed.{Listed}
use Rattle.otio_model.specs.Trees.{items_of, below}
use Rattle.coord.specs.declared.faults.ItemFault.{ItemFault}
use Rattle.coord.specs.declared.judging.Found.{Found}
use Rattle.coord.specs.declared.judging.Found.TheVariants.{At, Memory}
use Rattle.coord.specs.Soundness.{fault_of, AreFaultless, IsFaultlessItem, IsFirstFault, Precedes}

-- so it is with the first n children
abbrev pub AreFaultlessTo : ℕ → Listed → Type 0
AreFaultlessTo n l = (i : ℕ) (x : ItemOf Listed) → i < n → slice_get (items_of l) i ≡ Some x
    → IsFaultlessItem x

-- the first fault of an item and those below it
pub record IsFirstBelow (x : ItemOf Listed) (place : List ℕ) (fault : ItemFault) : Type 0 where
  pub item : ItemOf Listed
  pub there : below place x ≡ Some item
  pub has : fault_of item ≡ Some fault
  pub first : (before : List ℕ) (y : ItemOf Listed) → Precedes before place
      → below before x ≡ Some y → fault_of y ≡ None

-- what was found in children; want of memory comes only where there is a fault
abbrev pub IsFoundIn : Listed → Found → Type 0
IsFoundIn l (At way fault) = IsFirstFault l way.items fault
IsFoundIn l Memory = AreFaultless l → ⊥

-- what was found in an item
abbrev pub IsFoundAt : ItemOf Listed → Found → Type 0
IsFoundAt x (At way fault) = IsFirstBelow x way.items fault
IsFoundAt x Memory = IsFaultlessItem x → ⊥

-- what was found in the child i, seen from the children's side; want of memory may hide any fault
abbrev pub IsUnder : ℕ → Found → Found → Type 0
IsUnder i found Memory = Unit {0}
IsUnder i Memory (At way fault) = ⊥
IsUnder i (At rest cause) (At way fault) = (cause ≡ fault) × (way.items ≡ i ∷ rest.items)

-- Words of the walk that looks for the first item without a form in the older family; no public
-- clause cites them.
use Rattle.std.specs.Prelude.{◌≡◌, ◌<◌, ℕ, List, [], ◌∷◌, Option, Some, None, slice_get, option_and_then}
use Rattle.otio_model.specs.declared.compositions.ItemOf.{ItemOf}
use Rattle.otio_model.specs.declared.compositions.Listed.{Listed}
use Rattle.otio_model.specs.declared.objects.Object.{Object}
use Rattle.otio_model.specs.Trees.{below, items_of}
use Rattle.coord.specs.Soundness.{Precedes}
use Rattle.schema_write.specs.declared.old_faults.OldFault.{OldFault}
use Rattle.schema_write.specs.declared.old_forms.Found.{Found}
use Rattle.schema_write.specs.declared.old_forms.Found.TheVariants.{At, Memory}
use Rattle.schema_write.specs.OldForms.{old_fault_of, held_at}

-- a way from places to items
abbrev pub Way : Type 0
Way = List ℕ → Option (ItemOf Listed)

-- each item on the way has a form in the older family
abbrev pub AreOld : Way → Type 0
AreOld there = (place : List ℕ) (x : ItemOf Listed) → there place ≡ Some x → old_fault_of x ≡ None

-- the first fault of the items on the way
pub record IsFirstIn (there : Way) (place : List ℕ) (fault : OldFault) : Type 0 where
  pub item : ItemOf Listed
  pub is : there place ≡ Some item
  pub has : old_fault_of item ≡ Some fault
  pub first : (before : List ℕ) (x : ItemOf Listed) → Precedes before place
      → there before ≡ Some x → old_fault_of x ≡ None

-- the first fault of these items was found; where memory ran out, nothing is known of it
abbrev pub IsFound : Way → Found → Type 0
IsFound there (At way fault) = IsFirstIn there way.items fault
IsFound there Memory = Unit {0}

-- a place in some things: the index of one of them, and a place in it
abbrev pub among : {X : Type 0} → (List ℕ → X → Option (ItemOf Listed)) → List X → Way
among into xs [] = None
among into xs (i ∷ place) = option_and_then (into place) (slice_get xs i)

-- each of the first n of some things has only items with a form in the older family
abbrev pub AreOldTo : {X : Type 0} → (List ℕ → X → Option (ItemOf Listed)) → ℕ → List X → Type 0
AreOldTo {X} into n xs = (i : ℕ) (x : X) → i < n → slice_get xs i ≡ Some x
    → AreOld (λ place. into place x)

-- the ways into an item, into children, into an object and into objects
abbrev pub into_item : ItemOf Listed → Way
into_item x = λ place. below place x

abbrev pub into_items : Listed → Way
into_items l = among below (items_of l)

abbrev pub into_object : Object → Way
into_object object = λ place. held_at place object

abbrev pub into_objects : List Object → Way
into_objects objects = among held_at objects

-- what was found in the thing i, seen from one level up; where memory ran out, nothing is known
abbrev pub IsUnder : ℕ → Found → Found → Type 0
IsUnder i found Memory = Unit {0}
IsUnder i Memory (At way fault) = ⊥
IsUnder i (At rest cause) (At way fault) = (cause ≡ fault) × (way.items ≡ i ∷ rest.items)

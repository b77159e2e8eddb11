-- What refuses a flat timeline, and where first.
use Rattle.std.specs.Prelude.{◌≡◌, ℕ, pos, true, false, List, [], ◌∷◌, Some, slice_get, Contains}
use Rattle.otio_model.specs.declared.compositions.ItemOf.{ItemOf}
use Rattle.otio_model.specs.declared.compositions.Listed.{Listed}
use Rattle.otio_model.specs.Trees.{is_transition}
use Rattle.coord.specs.Soundness.{Precedes}
use Rattle.flat.specs.declared.faults.Cause.{Cause}
use Rattle.flat.specs.declared.faults.Cause.TheVariants as C
use Rattle.flat.specs.Roots.{is_track, is_layer, is_plain, is_nested, items_in}
use Rattle.flat.specs.Pieces.{Giver, giver, longest, Piece, AreLongest, is_cut}

-- a piece of the clip at i of track k can't be cut from it
pub record IsRefused (kind : List ℕ) (l : List (ItemOf Listed)) (k i : ℕ) : Type 0 where
  pub pieces : List Piece
  pub are : AreLongest (giver 0 kind l) (longest kind l) (pos 0) pieces
  pub piece : Piece
  pub among : Contains pieces piece
  pub of : Giver
  pub gives : piece.of ≡ Some of
  pub track : of.track ≡ k
  pub child : of.child ≡ i
  pub refused : is_cut piece of ≡ false

-- what refuses the tracks of a kind to be flattened, and at which places
pub data Blocks (kind : List ℕ) (l : List (ItemOf Listed)) : List ℕ → Cause → Type 0 where
  no_track : (place : List ℕ) (k : ℕ) (x : ItemOf Listed) → place ≡ k ∷ [] → slice_get l k ≡ Some x
      → is_track x ≡ false → Blocks kind l place C.Nested
  not_plain : (place : List ℕ) (k : ℕ) (x : ItemOf Listed) → place ≡ k ∷ [] → slice_get l k ≡ Some x
      → is_layer kind x ≡ true → is_plain x ≡ false → Blocks kind l place C.Nested
  nested : (place : List ℕ) (k i : ℕ) (x y : ItemOf Listed) → place ≡ k ∷ i ∷ []
      → slice_get l k ≡ Some x → is_layer kind x ≡ true
      → slice_get (items_in x) i ≡ Some y → is_nested y ≡ true → Blocks kind l place C.Nested
  transition : (place : List ℕ) (k i : ℕ) (x y : ItemOf Listed) → place ≡ k ∷ i ∷ []
      → slice_get l k ≡ Some x → is_layer kind x ≡ true
      → slice_get (items_in x) i ≡ Some y → is_transition y ≡ true → Blocks kind l place C.Crossing
  phase : (place : List ℕ) (k i : ℕ) → place ≡ k ∷ i ∷ [] → IsRefused kind l k i
      → Blocks kind l place C.Phase

-- nothing is wrong at any place
abbrev pub IsFree : (List ℕ → Cause → Type 0) → Type 0
IsFree has = (place : List ℕ) (c : Cause) → has place c → ⊥

-- the first place in document order at which something is wrong
pub record IsFirst (has : List ℕ → Cause → Type 0) (place : List ℕ) (c : Cause) : Type 0 where
  pub there : has place c
  pub first : (before : List ℕ) (d : Cause) → Precedes before place → has before d → ⊥

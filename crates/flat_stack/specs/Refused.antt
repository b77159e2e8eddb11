-- Parts of a flat track that can't be cut from their clips.
use Rattle.std.specs.Prelude.{◌≡◌, ℕ, ◌<◌, false, List, [], ◌∷◌, Some, slice_get}
use Rattle.otio_model.specs.declared.compositions.ItemOf.{ItemOf}
use Rattle.otio_model.specs.declared.compositions.Listed.{Listed}
use Rattle.flat.specs.declared.faults.Cause.{Cause}
use Rattle.flat.specs.declared.faults.Cause.TheVariants as C
use Rattle.flat.specs.Pieces.{Giver, Piece, is_cut}
use Rattle.flat_stack.specs.declared.same_clips.Part.{Part}
use Rattle.flat_stack.specs.Runs.{piece_of}

-- a piece can't be cut from its clip, which stands at the place
pub record IsRefusal (p : Piece) (place : List ℕ) (c : Cause) : Type 0 where
  pub of : Giver
  pub gives : p.of ≡ Some of
  pub refused : is_cut p of ≡ false
  pub at : place ≡ of.track ∷ of.child ∷ []
  pub cause : c ≡ C.Phase

-- one of the first n parts can't
pub record IsRefusedTo (l : List (ItemOf Listed)) (parts : List Part) (n : ℕ) (place : List ℕ)
    (c : Cause)
    : Type 0 where
  pub index : ℕ
  pub less : index < n
  pub part : Part
  pub there : slice_get parts index ≡ Some part
  pub refusal : IsRefusal (piece_of l part) place c

-- What can't be flattened, whatever the parts are.
use Rattle.std.specs.Prelude.{◌≡◌, ◌≢◌, ℕ, ◌<◌, List, Option, Some, None, slice_get}
use Rattle.otio_model.specs.declared.compositions.ItemOf.{ItemOf}
use Rattle.otio_model.specs.declared.compositions.ItemOf.TheVariants.{Clip, Gap, Transition, Stack, Track}
use Rattle.otio_model.specs.declared.compositions.Listed.{Listed}
use Rattle.flat.specs.declared.faults.Cause.{Cause}
use Rattle.flat.specs.declared.faults.Cause.TheVariants as C
use Rattle.flat.specs.Blocked.{Blocks}

-- what is wrong but for parts that can't be cut
abbrev pub Misfits : List ℕ → List (ItemOf Listed) → List ℕ → Cause → Type 0
Misfits kind l place c = Blocks kind l place c × (c ≢ C.Phase)

-- what is wrong with a child of a layer
abbrev pub child_cause : ItemOf Listed → Option Cause
child_cause (Clip x) = None
child_cause (Gap x) = None
child_cause (Transition x) = Some C.Crossing
child_cause (Stack x) = Some C.Nested
child_cause (Track x) = Some C.Nested

-- nothing is wrong with so many children
abbrev pub AreFit : List (ItemOf Listed) → ℕ → Type 0
AreFit l n = (i : ℕ) (y : ItemOf Listed) → i < n → slice_get l i ≡ Some y → child_cause y ≡ None

-- the first child with which something is wrong
pub record IsMisfit (l : List (ItemOf Listed)) (i : ℕ) (c : Cause) : Type 0 where
  pub item : ItemOf Listed
  pub there : slice_get l i ≡ Some item
  pub wrong : child_cause item ≡ Some c
  pub before : AreFit l i

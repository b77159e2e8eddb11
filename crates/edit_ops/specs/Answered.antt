-- What the plan of an edit of a list comes to.
use Rattle.std.specs.Prelude.{◌≢◌, ℕ, ℤ, Bool, true, false, List, Result}
use Rattle.std.specs.Result.{IfErr, IfOk}
use Rattle.otio_model.specs.declared.compositions.ItemOf.{ItemOf}
use Rattle.otio_model.specs.declared.compositions.Listed.{Listed}
use Rattle.otio_model.specs.declared.edit_types.Edit.{Edit}
use Rattle.otio_model.specs.declared.edit_types.Edit.TheVariants as A
use Rattle.otio_model.specs.declared.edit_types.EditFault.{EditFault}
use Rattle.otio_model.specs.declared.edit_types.EditFault.TheVariants as F
use Rattle.otio_model.specs.declared.patches.Patch.{Patch}
use Rattle.otio_model.specs.declared.timelines.Timeline.{Timeline}
use Rattle.edits.specs.Refusals.{IsRefused}
use Rattle.edit_plans.specs.Planned.{IsPlan}

-- the result is a plan of the edit, or the edit's first fault, or memory ran out
pub record IsAnswer (t : Timeline) (e : Edit) (r : Result Patch EditFault) : Type 0 where
  pub plan : IfOk r (λ (p : Patch). IsPlan t e p)
  pub fault : IfErr r (λ (f : EditFault). f ≢ F.Memory → IsRefused t e f)

-- the edit that puts an item over what is there, or before it
abbrev pub put_edit : Bool → List ℕ → ℤ → ItemOf Listed → Edit
put_edit true place at x = A.Overwrite place at x
put_edit false place at x = A.Insert place at x

-- The patches of acts, and their faults.
use Rattle.otio_model.specs.declared.patches.Patch.{Patch}
use Rattle.otio_model.specs.declared.timelines.Timeline.{Timeline}
use Rattle.otio_model.specs.declared.edit_types.Edit.{Edit}
use Rattle.otio_model.specs.declared.edit_types.EditFault.{EditFault}
use Rattle.edits.specs.Refusals.{IsRefused}
use Rattle.edit_plans.specs.Planned.{IsPlan}
use Rattle.edit_script.specs.declared.commands.Act.{Act}
use Rattle.media_rows.specs.Rows.{MediaRows}
use Rattle.edit_script.specs.Runs.{AsksFor}

-- the patch is a plan of the edit that an act asks for
pub record IsPlanOf (media : MediaRows) (act : Act) (t : Timeline) (p : Patch) : Type 0 where
  pub edit : Edit
  pub asks : AsksFor media act t edit
  pub plan : IsPlan t edit p

-- that edit is refused for this fault
pub record IsRefusalOf (media : MediaRows) (act : Act) (t : Timeline) (why : EditFault)
    : Type 0 where
  pub edit : Edit
  pub asks : AsksFor media act t edit
  pub refused : IsRefused t edit why

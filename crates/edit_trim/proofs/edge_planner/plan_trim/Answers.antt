use Rattle.std.proofs.Common.{rules, sym, subst, FitsSigned, IfErr, IfOk}
use mir.Syntax.{w64}
use Rattle.std.proofs.lemmas.Int.{to_z-of_z}
use Rattle.std.specs.Prelude.{◌≢◌}
use Rattle.std.proofs.lemmas.Result.{IfOk-weaker}
use Rattle.otio_model.specs.declared.edit_types.EditFault.TheVariants.{Memory}
use Rattle.otio_model.specs.Patches.{applied}
use Rattle.edits_law.specs.Editable.{HasEditItem}
use Rattle.edits.specs.Refusals.{IsRefused}
use Rattle.edit_plans.specs.Planned.{IsPlan}
use Rattle.edit_plans.proofs.Shown.{shows_through}
use Rattle.edit_trim.proofs.Planning.{item_is}
use Rattle.edit_trim.proofs.edge_planner.plan_trim.Goals as goal

pub returns-clause-plan : goal.returns-clause-plan
returns-clause-plan c =
    let at : FitsSigned w64 c.parts_of-asked.result.at = search rules in
    subst (λ e. IfOk c.plan_parts_of.result (IsPlan c.args.timeline.now e))
    (sym c.parts_of-asked.ensures) (simp to_z-of_z at c.plan_parts_of.ensures.plan)

pub returns-clause-law : goal.returns-clause-law
returns-clause-law c =
    let at : FitsSigned w64 c.parts_of-asked.result.at = search rules in
    IfOk-weaker c.plan_parts_of.result _ _
    (λ p k. shows_through c.args.timeline.now c.args.edit (applied p c.args.timeline.now)
    c.requires.sound
    (subst HasEditItem (sym c.parts_of-asked.ensures)
    (item_is c.parts_of-asked.result.place c.parts_of-asked.result.at
    c.parts_of-asked.result.edges)) k.after)
    (subst (λ e. IfOk c.plan_parts_of.result (IsPlan c.args.timeline.now e))
    (sym c.parts_of-asked.ensures) (simp to_z-of_z at c.plan_parts_of.ensures.plan))

pub returns-clause-fault : goal.returns-clause-fault
returns-clause-fault c =
    let at : FitsSigned w64 c.parts_of-asked.result.at = search rules in
    subst (λ e. IfErr c.plan_parts_of.result (λ fault. fault ≢ Memory
    → IsRefused c.args.timeline.now e fault)) (sym c.parts_of-asked.ensures)
    (simp to_z-of_z at c.plan_parts_of.ensures.fault)
